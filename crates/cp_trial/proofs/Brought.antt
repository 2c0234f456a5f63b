-- A page that a program comes to is touched, and shows the bytes that it showed.
use Rattle.std.proofs.Common.{◌≡◌, ◌≢◌, ℕ, ◌<◌, List, [], ◌∷◌, Bool, true, false, zero, suc, length, get_or}
use Rattle.std.proofs.Common.{ap, ◌∙◌, sym, inl, inr, arith}
use Rattle.std.specs.Prelude.{Contains, slice_index_or, slice_set}
use Rattle.std.proofs.lemmas.Bool.{cases_eq}
use Rattle.std.proofs.lemmas.List.{get_or-set_other, get_or-set_same}
use Rattle.cp_trial.specs.declared.storage.TrialStorage.{TrialStorage}
use Rattle.cp_trial.specs.Trial.{TrialBrought, is_touched, trial_bytes, trial_flags}

only_one : (page k : ℕ) → Contains (page ∷ []) k → page ≡ k
only_one page k (zero, low, is) = is
only_one page k (suc i, low, is) = absurd (omega (arith, low))

-- Where one more page has a flag and all bytes stay, just this page was touched.
pub one_brought : (s t : TrialStorage) (page : ℕ) → page < length (trial_flags s)
    → trial_flags t ≡ slice_set (trial_flags s) page true → trial_bytes t ≡ trial_bytes s
    → TrialBrought s (page ∷ []) t
one_brought s t page inside flags same =
    let here : is_touched t page ≡ true =
    ap (λ fs. slice_index_or fs page false) flags ∙ get_or-set_same (trial_flags s) page true false inside in
    let apart : (k : ℕ) → k ≢ page → is_touched t k ≡ is_touched s k =
    λ k other. ap (λ fs. slice_index_or fs k false) flags ∙ get_or-set_other (trial_flags s) page k true false other in
    record {
      touches = record {
        size = ap length same;
        stays = λ k there. (elim (cases_eq k page) [
          | inl is ↦ ap (λ i. is_touched t i) is ∙ here
          | inr other ↦ apart k other ∙ there
        ]);
        paged_in = λ k there. (elim (cases_eq k page) [
          | inl is ↦ inr (0, omega arith, sym is)
          | inr other ↦ inl (sym (apart k other) ∙ there)
        ]);
        untouched = λ a away. ap (λ xs. get_or xs a 0) same;
      };
      held = λ k listed. ap (λ i. is_touched t i) (sym (only_one page k listed)) ∙ here;
    }
