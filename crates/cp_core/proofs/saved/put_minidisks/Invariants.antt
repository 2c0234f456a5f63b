use Rattle.std.proofs.Common.{◌≡◌, ◌++◌, drop}
use Rattle.saved_bytes.specs.Codes.{each}
use Rattle.cp_volumes.specs.Saved.{disk_bytes}
use Rattle.cp_core.proofs.saved.put_minidisks.Given as goal

abbrev pub invariant-loop-disk : goal.invariant-loop-disk
invariant-loop-disk l = l.out.items ++ each disk_bytes (drop l.disk-index l.minidisks) ≡ l.fn.out.items
    ++ each disk_bytes l.minidisks
