use Rattle.std.proofs.Common.{◌∙◌}
use Rattle.std.proofs.Math.Seq.{map-set_same}
use Rattle.cp_volumes.specs.Shared.{placement_of}
use Rattle.cp_core.proofs.saved.restore_minidisks.Goals as goal

pub returns-in_err-restore : goal.returns-in_err-restore
returns-in_err-restore c =
    map-set_same placement_of c.loop-disk.minidisks c.loop-disk.disk-index c.restore.new.self c.disk-item.result
    c.restore.ensures ∙ c.loop-disk.invariant

pub loop-disk-preserved : goal.loop-disk-preserved
loop-disk-preserved c =
    map-set_same placement_of c.loop-disk.minidisks c.loop-disk.disk-index c.restore.new.self c.disk-item.result
    c.restore.ensures ∙ c.loop-disk.invariant
