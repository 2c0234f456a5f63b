use Rattle.std.proofs.Common.{arith}
use Rattle.sessions.proofs.Whole.{unended_at_first}
use Rattle.sessions.proofs.follow.unended.Goals as goal

pub loop-byte-init : goal.loop-byte-init
loop-byte-init c = record { so_far = unended_at_first c.args.text.now; few = omega arith }
