-- States that are told, or of which there are none.
use Rattle.std.proofs.Common.{◌≡◌, ◌∙◌, ◌++◌, ◌⊎◌, ℕ, Bool, true, false, List, [], Option, Result, ap, inl, inr, refl}
use Rattle.std.proofs.Common.{subst, sym}
use Rattle.std.specs.Result.{OnErr}
use Rattle.s370_num.specs.Host.{AppendsFront}
use Rattle.sessions.specs.Saved.{AppendsSuch}
use Rattle.sessions.proofs.Histories.{err_then}
use Rattle.programs.specs.Parts.{IsStateTold, IsToldPartly, told_state}

-- What was appended to nothing is told as such a state.
told : (IsSuch : List ℕ → Type 0) (HasNone : Type 0) (is : Bool) (none state text : List ℕ) → none ≡ []
    → text ≡ state → AppendsSuch IsSuch HasNone is none state → IsStateTold IsSuch HasNone (told_state is text)
told IsSuch HasNone true none state text empty same h =
    let bytes : state ≡ h.0 = h.2 ∙ ap (λ (l : List ℕ). l ++ h.0) empty in
    inl (text, subst IsSuch (sym (same ∙ bytes)) h.1, refl)
told IsSuch HasNone false none state text empty same h = inr (h.0, refl)

-- Where telling it failed, it was told partly.
pub told_partly : {A E : Type 0} (result : Result A E) (IsSuch : List ℕ → Type 0) (HasNone : Type 0) (is : Bool)
    (none state text : List ℕ) (a b : Option (List ℕ)) → none ≡ [] → text ≡ state
    → AppendsSuch IsSuch HasNone is none state
    → OnErr result ((b ≡ a) ⊎ AppendsFront a b (told_state is text))
    → OnErr result (IsToldPartly (IsStateTold IsSuch HasNone) a b)
told_partly result IsSuch HasNone is none state text a b empty same h failed =
    err_then result
    (λ w. elim w [
      | inl kept ↦ inl kept
      | inr front ↦ inr (told_state is text, told IsSuch HasNone is none state text empty same h, front)
    ]) failed
