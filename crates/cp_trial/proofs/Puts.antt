-- A write changes pages alone in which it lies.
use Rattle.std.proofs.Common.{◌≡◌, ℕ, ◌+◌, ◌-◌, ◌/◌, ◌%◌, ◌<◌, ◌≤◌, List, Bool, true, false, length, get_or, ap, ◌∙◌}
use Rattle.std.proofs.Common.{sym, arith, inl, inr}
use Rattle.std.proofs.lemmas.Bool.{cases_lt}
use Rattle.s370_store.specs.Access.{put, IsGranted}
use Rattle.s370_store.specs.Memory.{Memory, with_stored}
use Rattle.s370_store.proofs.Puts.{put_before, put_after}
use Rattle.cp_trial.specs.declared.storage.TrialStorage.{TrialStorage}
use Rattle.channel_trial.specs.Pages.{KeepsUntouched}
use Rattle.cp_trial.specs.Trial.{trial_bytes, trial_flags, trial_memory, is_touched, TrialKeeps}

differ : {b : Bool} → b ≡ false → b ≡ true → ⊥
differ away there = cc

put_there : (touched : ℕ → Bool) (bytes xs : List ℕ) (start : ℕ) → start + length xs ≤ length bytes
    → ((a : ℕ) → start ≤ a → a < start + length xs → touched (a / 4096) ≡ true)
    → KeepsUntouched touched bytes (put bytes start xs)
put_there touched bytes xs start h there a away =
    elim (cases_lt a start) [
      | inl before ↦ put_before bytes xs start a h before
      | inr low ↦ (elim (cases_lt a (start + length xs)) [
        | inl high ↦ absurd (differ away (there a low high))
        | inr after ↦ put_after bytes xs start a h after
      ])
    ]

-- Bytes that are put into touched pages leave the others as they are.
pub put_granted : (touched : ℕ → Bool) (bytes xs : List ℕ) (start : ℕ)
    → IsGranted (length bytes) touched start (length xs) → KeepsUntouched touched bytes (put bytes start xs)
put_granted touched bytes xs start granted =
    put_there touched bytes xs start granted.inside
    (λ a low high. (let e : start + (a - start)
    ≡ a = omega arith in let there =
    granted.here (a - start) (omega arith) in ap (λ k. touched (k / 4096)) (sym e) ∙ there))

-- Bytes that are put into a touched block leave the other pages as they are.
pub put_in_block : (touched : ℕ → Bool) (bytes xs : List ℕ) (first start : ℕ) → first % 2048 ≡ 0
    → first + 2048 ≤ length bytes → touched (first / 4096) ≡ true → first ≤ start → start + length xs ≤ first + 2048
    → KeepsUntouched touched bytes (put bytes start xs)
put_in_block touched bytes xs first start whole inside there begins ends =
    put_there touched bytes xs start (omega arith)
    (λ a low high. (let e : a / 4096 ≡ first / 4096 = omega arith in ap touched e ∙ there))

-- A store of a dry run leaves pages that it did not touch as they are.
pub kept_where : (s t : TrialStorage) (start : ℕ) (xs : List ℕ) → length (trial_bytes t) ≡ length (trial_bytes s)
    → trial_flags t ≡ trial_flags s → trial_memory t ≡ with_stored (trial_memory s) start xs
    → KeepsUntouched (is_touched s) (trial_bytes s) (put (trial_bytes s) start xs) → TrialKeeps s t
kept_where s t start xs size flags stored kept = record {
  rest = record {
    size = size;
    flags = flags;
    untouched = λ a away. (let old : is_touched s (a / 4096)
        ≡ false = sym (ap (λ f. get_or f (a / 4096) false) flags) ∙ away in ap (λ (m : Memory). get_or m.bytes a 0)
        stored ∙ kept a old);
  };
  keys = ap (λ (m : Memory). m.keys) stored;
}
