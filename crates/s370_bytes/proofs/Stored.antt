-- What a row leaves that stores one string.
use Rattle.std.proofs.Common.{◌≡◌, ℕ, List, [], ◌∷◌, None, Ok, refl}
use Rattle.s370_store.specs.Memory.{Memory, with_stored}
use Rattle.s370_rows.specs.declared.cpu.Cpu.{Cpu}
use Rattle.s370_rows.specs.declared.ending.Completion.TheVariants.{Done}
use Rattle.s370_rows.specs.State.{state_of}
use Rattle.s370_rows.specs.Rows.{fault_of, judged, checked, store_test, writes, outcome_of}

-- A store that was tested leaves what the instruction says.
pub wrote : (cpu : Cpu) (before after : Memory) (xs ys : List ℕ) (a at n : ℕ) → at ≡ a → ys ≡ xs
    → fault_of (state_of cpu before) (store_test at n ∷ []) ≡ None → after ≡ with_stored before at ys
    → outcome_of (state_of cpu before) (judged (state_of cpu before)
    (checked (store_test a n ∷ []) (writes (state_of cpu before) a xs)))
    ≡ Ok (record { ending = Done; state = state_of cpu after })
wrote cpu before after xs ys a at n p q f s = rw (← p, ← q, f, s) refl
