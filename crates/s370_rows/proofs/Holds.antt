-- What lies in a block that is held, is granted.
use Rattle.std.proofs.Common.{ℕ, ◌+◌, ◌≤◌, Bool, [], ◌∷◌, Ok, length, ap}
use Rattle.s370_store.specs.declared.Access.{Access}
use Rattle.s370_store.specs.Blocks.{MayAccess}
use Rattle.s370_store.proofs.Blocks.{block_granted, block_passes}
use Rattle.s370_rows.specs.State.{State}
use Rattle.s370_rows.specs.Rows.{Grants, code_of}

-- A range in a block that may be accessed is granted.
pub grants_in : {access : Access} (m : State) (present : ℕ → Bool) (first start n : ℕ)
    → MayAccess access (length m.bytes) m.keys present m.cpu.psw.key first → first ≤ start → start + n ≤ first + 2048
    → Grants m present (record { access = access; start = start; count = n } ∷ []) (Ok tt)
grants_in m present first start n may begins ends = (
  ap code_of (block_passes _ _ _ _ first start n may begins ends),
  (λ some. block_granted _ _ _ _ first start n may begins ends, tt),
)
