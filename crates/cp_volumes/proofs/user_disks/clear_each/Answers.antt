use Rattle.std.proofs.Common.{arith, ◌<◌, length, get_or}
use Rattle.std.proofs.lemmas.List.{get_or_default}
use Rattle.std.proofs.lemmas.List.Edits.{map_over_more}
use Rattle.cp_volumes.specs.Shared.{cleared_minidisk}
use Rattle.cp_volumes.proofs.user_disks.clear_each.Goals as goal

pub loop-disk-preserved : goal.loop-disk-preserved
loop-disk-preserved c =
    let xs = c.args.minidisks.now in
    let items = c.loop-disk.minidisks in
    let k = c.loop-disk.disk-index in
    let x = get_or items k c.disk-item.result in
    let lt : k < length items = omega arith in
    rw c.clear.ensures (map_over_more cleared_minidisk xs items k x c.loop-disk-test.true c.loop-disk.invariant
    (get_or_default items k c.disk-item.result x lt))
