use Rattle.std.proofs.Common.{◌≡◌, ◌++◌, map, take, drop}
use Rattle.cp_frames.specs.Layout.{without}
use Rattle.cp_frames.proofs.owners.remove_user_pages.Given as goal

abbrev pub invariant-loop-owner : goal.invariant-loop-owner
invariant-loop-owner l = l.owner-items ≡ map (without l.user) (take l.owner-index l.initial.owner-items)
    ++ drop l.owner-index l.initial.owner-items
