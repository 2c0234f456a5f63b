use Rattle.std.proofs.Common.{◌≡◌, ℕ, ◌≤◌, true, List, ◌++◌, length, take, drop, replicate, ap, sym, ◌∙◌, arith}
use Rattle.std.proofs.Math.Seq.{take-append_seam}
use Rattle.std.proofs.lemmas.List.{drop-replicate}
use Rattle.std.proofs.lemmas.Bool.Decides.{nat_tests}
use Rattle.cp_directory.specs.Extents.{is_volser, padded}
use Rattle.cp_directory.proofs.extent.Volser.new.Goals as goal

is_short : (word : List ℕ) → is_volser word ≡ true → length word ≤ 6
is_short word h = grind (arith, nat_tests)

-- the word with blanks after it
kept : (word : List ℕ) → is_volser word ≡ true
    → (length word ≤ 6) × (is_volser (take (length word) (word ++ drop (length word) (replicate 6 32))) ≡ true)
    × (word ++ drop (length word) (replicate 6 32) ≡ padded (take (length word)
    (word ++ drop (length word) (replicate 6 32))))
kept word h =
    let front : take (length word) (word ++ drop (length word) (replicate 6 32)) ≡ word = take-append_seam word
    (drop (length word) (replicate 6 32)) in (
      is_short word h,
      ap is_volser front ∙ h,
      ap (λ (l : List ℕ). word ++ l) (drop-replicate {X = ℕ} (length word) 6 32)
          ∙ ap padded (sym front),
    )

copied : (word front : List ℕ) → front ≡ word → is_volser word ≡ true
    → (length word ≤ 6) × (is_volser (take (length word) (front ++ drop (length word) (replicate 6 32))) ≡ true)
    × (front ++ drop (length word) (replicate 6 32) ≡ padded
    (take (length word) (front ++ drop (length word) (replicate 6 32))))
copied word front e h = rw e (kept word h)

pub invariant_of-result : goal.invariant_of-result
invariant_of-result c = copied c.args.word.now c.copy_from_slice.new.self c.copy_from_slice.ensures.after
    (sym c.is_volser.ensures ∙ c.if-not-is_volser.false)
