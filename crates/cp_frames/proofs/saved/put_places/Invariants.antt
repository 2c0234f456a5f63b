use Rattle.std.proofs.Common.{◌≡◌, ◌++◌, drop}
use Rattle.saved_bytes.specs.Codes.{each, optional}
use Rattle.cp_frames.specs.Saved.{page_bytes}
use Rattle.cp_frames.proofs.saved.put_places.Given as goal

abbrev pub invariant-loop-owner : goal.invariant-loop-owner
invariant-loop-owner l = l.out.items ++ each (optional page_bytes) (drop l.owner-index l.owners) ≡ l.fn.out.items
    ++ each (optional page_bytes) l.owners
