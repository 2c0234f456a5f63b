use Rattle.std.proofs.Common.{◌≡◌, ◌++◌, drop}
use Rattle.saved_bytes.specs.Codes.{each}
use Rattle.ckd_saved.specs.Saved.{volume_bytes}
use Rattle.cp_core.proofs.saved.put_volumes.Given as goal

abbrev pub invariant-loop-index : goal.invariant-loop-index
invariant-loop-index l = l.out.items ++ each volume_bytes (drop l.index l.volumes) ≡ l.fn.out.items
    ++ each volume_bytes l.volumes
