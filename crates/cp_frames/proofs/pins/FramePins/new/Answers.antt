use Rattle.std.proofs.Common.{rules, ◌≡◌, replicate}
use Rattle.cp_frames.proofs.Rounds.{none_at_first}
use Rattle.cp_frames.proofs.pins.FramePins.new.Goals as goal

pub returns : goal.returns
returns c = let zeros : c.in_ok-rounds.rounds.items ≡ replicate c.args.count 0 =
    search rules in rw zeros (none_at_first c.args.count)
