use Rattle.std.proofs.Common.{arith}
use Rattle.frame_map.proofs.Ended.{ended_by_last}
use Rattle.frame_map.proofs.program.is_ended.Goals as goal

pub returns-in-len1-up : goal.returns-in-len1-up
returns-in-len1-up c = ended_by_last c.args.text.now (omega arith)
