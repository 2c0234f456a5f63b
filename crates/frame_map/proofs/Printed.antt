-- Lines of runs, one after another.
use Rattle.std.proofs.Common.{◌≡◌, ◌+◌, ℕ, List, [], ◌∷◌, ◌++◌, append_assoc, append-nil, arith, drop, length}
use Rattle.std.proofs.Common.{subst, sym, take}
use Rattle.std.specs.Prelude.{Option}
use Rattle.frame_map.specs.declared.places.Owner.{Owner}
use Rattle.frame_map.specs.Runs.{ArePrinted, IsLongestRun, no_more, one_run, run_text}

-- what is printed so far, of all places
abbrev pub ArePrintedSoFar : List ℕ → List (List ℕ) → List (Option Owner) → ℕ → List (Option Owner) → List ℕ
    → Type 0
ArePrintedSoFar word names places first rest so_far = (text : List ℕ) → ArePrinted word names first rest text
    → ArePrinted word names 0 places (so_far ++ text)

-- one run more
pub run_more : (word : List ℕ) (names : List (List ℕ)) (places rest : List (Option Owner)) (first count : ℕ)
    (so_far : List ℕ) → IsLongestRun rest count → ArePrintedSoFar word names places first rest so_far
    → ArePrintedSoFar word names places (first + count) (drop count rest)
    (so_far ++ run_text word names first (take count rest))
run_more word names places rest first count so_far run printed = λ text more.
    let line = run_text word names first (take count rest) in
    subst (ArePrinted word names 0 places) (sym (append_assoc so_far line text))
    (printed (line ++ text) (one_run first count rest text run more))

-- the same, of what is known of the parts of a run
pub run_added : (word : List ℕ) (names : List (List ℕ)) (places rest run after : List (Option Owner)) (first count : ℕ)
    (so_far more : List ℕ) → run ≡ take count rest → after ≡ drop count rest
    → more ≡ so_far ++ run_text word names first run → IsLongestRun rest count
    → ArePrintedSoFar word names places first rest so_far
    → ArePrintedSoFar word names places (first + count) after more
run_added word names places rest run after first count so_far more front back appended longest printed =
    rw (appended, front, back) (run_more word names places rest first count so_far longest printed)

-- and no more
pub no_run : (word : List ℕ) (names : List (List ℕ)) (places rest : List (Option Owner)) (first : ℕ) (so_far : List ℕ)
    → length rest ≡ 0 → ArePrintedSoFar word names places first rest so_far → ArePrinted word names 0 places so_far
no_run word names places [] first so_far none printed =
    subst (ArePrinted word names 0 places) (append-nil so_far) (printed [] (no_more first))
no_run word names places (place ∷ rest) first so_far none printed = absurd (omega (arith, none))
