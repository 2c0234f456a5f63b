use Rattle.std.proofs.Common.{arith, ◌<◌, length, get_or}
use Rattle.std.proofs.lemmas.List.{get_or_default}
use Rattle.std.proofs.lemmas.List.Edits.{map_over_more}
use Rattle.cp_frames.specs.Layout.{without}
use Rattle.cp_frames.proofs.owners.remove_user_pages.Goals as goal

pub loop-owner-preserved : goal.loop-owner-preserved
loop-owner-preserved c =
    let xs = c.deref_mut-owner-items.result.now in
    let lt : c.loop-owner.owner-index < length c.loop-owner.owner-items = omega arith in
    rw c.kept.ensures (map_over_more (without c.args.user) xs c.loop-owner.owner-items c.loop-owner.owner-index
    (get_or c.loop-owner.owner-items c.loop-owner.owner-index c.owner-item.result) c.loop-owner-test.true
    c.loop-owner.invariant (get_or_default c.loop-owner.owner-items c.loop-owner.owner-index c.owner-item.result
    (get_or c.loop-owner.owner-items c.loop-owner.owner-index c.owner-item.result) lt))
