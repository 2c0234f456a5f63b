-- What `first_fault_of` says: the fault that is reported is the first faulty line's.
use Rattle.std.proofs.Common.{◌≡◌, ℕ, ◌+◌, List, [], ◌∷◌, ◌++◌, length, Result, Ok, Err, refl, ap, ◌∙◌, subst, add-zero}
use Rattle.std.proofs.Common.{arith}
use Rattle.text_words.specs.Lines.{and_then, read_lines}

-- the lines before the faulty one are read, and that one is refused by what they left
pub record FirstFault {S F : Type 0} (step : ℕ → S → List ℕ → Result S F) (n : ℕ) (s : S) (lines : List (List ℕ))
    (fault : F) : Type 0 where
  pub before : List (List ℕ)
  pub bad : List ℕ
  pub after : List (List ℕ)
  pub split : lines ≡ before ++ bad ∷ after
  pub so_far : S
  pub read : read_lines step n s before ≡ Ok so_far
  pub refused : step (n + length before) so_far bad ≡ Err fault

first_on : {S F : Type 0} (step : ℕ → S → List ℕ → Result S F) (n : ℕ) (s : S) (line : List ℕ) (lines : List (List ℕ))
    (fault : F) (r : Result S F) → step n s line ≡ r
    → ((t : S) → read_lines step (n + 1) t lines ≡ Err fault → FirstFault step (n + 1) t lines fault)
    → and_then r (λ next. read_lines step (n + 1) next lines) ≡ Err fault → FirstFault step n s (line ∷ lines) fault
first_on step n s line lines fault (Err other) e hyp h =
    let same : other ≡ fault = cc in
    record {
      before = [];
      bad = line;
      after = lines;
      split = refl;
      so_far = s;
      read = refl;
      refused = rw add-zero (e ∙ ap Err same);
    }
first_on step n s line lines fault (Ok t) e hyp h =
    let r = hyp t h in
    let count : n + 1 + length r.before ≡ n + length (line ∷ r.before) = omega arith in
    record {
      before = line ∷ r.before;
      bad = r.bad;
      after = r.after;
      split = ap (λ (l : List (List ℕ)). line ∷ l) r.split;
      so_far = r.so_far;
      read = rw e r.read;
      refused = subst (λ k. step k r.so_far r.bad ≡ Err fault) count r.refused;
    }

-- Reading that fails fails at the first line that is wrong.
pub first_fault_of : {S F : Type 0} (step : ℕ → S → List ℕ → Result S F) (n : ℕ) (s : S) (lines : List (List ℕ))
    (fault : F) → read_lines step n s lines ≡ Err fault → FirstFault step n s lines fault
first_fault_of step n s [] fault h = cc
first_fault_of step n s (line ∷ lines) fault h = first_on step n s line lines fault (step n s line) refl
    (λ t. first_fault_of step (n + 1) t lines fault) h
