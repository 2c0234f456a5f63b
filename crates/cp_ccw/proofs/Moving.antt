-- One more entry, and one more node, with real addresses.
use Rattle.std.specs.Prelude.{◌≡◌, ◌≢◌, ℕ, ◌+◌, ◌<◌, ◌≤◌, List, length, slice_index_or, slice_set, Option, None, Some}
use Rattle.std.specs.List.{slice_get}
use Rattle.std.proofs.Common.{sym, ◌∙◌, ap, arith, get_or}
use Rattle.std.proofs.Math.Decide.{dec_lt}
use Rattle.std.proofs.lemmas.List.{get_or-set_same, get_or-set_other, length-set, get_or_past}
use Rattle.std.proofs.lemmas.Option.{slice_get-get_or, slice_get_past, slice_get_within}
use Rattle.cp_frames.proofs.Layouts.{dec_eq}
use Rattle.s370_walk.specs.Mapped.{real_place}
use Rattle.cp_needs.specs.declared.program.Node.{Node}
use Rattle.cp_needs.specs.Table.{program_of, word_in, entry_in}
use Rattle.cp_ccw.specs.Moved.{AreReal, AreRealBelow, AreRealNodes}

-- One more element of a list gets its real address.
pub entry_on : (real : ℕ → Option ℕ) (n : ℕ) (old new : List (Option ℕ)) (v : Option ℕ) → AreReal real n old new
    → n < length new → v ≡ real_place real (slice_index_or new n None) → AreReal real (n + 1) old (slice_set new n v)
entry_on real n old new v are lt is = record {
  size = length-set new n v ∙ are.size;
  done = λ k low. elim (dec_eq k n) [
    | yes e ↦ ap (λ i. get_or (slice_set new n v) i None) e ∙ get_or-set_same new n v None lt ∙ is ∙ ap
        (real_place real) (are.left n (omega arith)) ∙ ap (λ i. real_place real (slice_index_or old i None)) (sym e)
    | no ne ↦ get_or-set_other new n k v None ne ∙ are.done k (omega (arith, ne))
  ];
  left = λ k high. (let ne : k ≢ n = omega arith in get_or-set_other new n k v None ne ∙ are.left k (omega arith));
}

module _ {X : Type 0} (xs : List X) (n : ℕ) (v : X) where
  pub get_set_same : n < length xs → slice_get (slice_set xs n v) n ≡ Some v
  get_set_same lt = (let long = length-set xs n v in slice_get-get_or (slice_set xs n v) n v (omega (arith, long))) ∙ ap
      Some (get_or-set_same xs n v v lt)

  pub get_set_other : (k : ℕ) → k ≢ n → slice_get (slice_set xs n v) k ≡ slice_get xs k
  get_set_other k ne = (let long = length-set xs n v in elim (dec_lt k (length xs)) [
    | yes lt ↦ slice_get-get_or (slice_set xs n v) k v (omega (arith, long)) ∙ ap Some (get_or-set_other xs n k v v ne)
        ∙ sym (slice_get-get_or xs k v lt)
    | no past ↦ slice_get_past (slice_set xs n v) k (omega (arith, long, past)) ∙ sym
        (slice_get_past xs k (omega (arith, past)))
  ])

-- all entries of a list
pub all_entries : (real : ℕ → Option ℕ) (old new : List (Option ℕ)) → AreReal real (length old) old new → (k : ℕ)
    → slice_index_or new k None ≡ real_place real (slice_index_or old k None)
all_entries real old new are k = elim (dec_lt k (length old)) [
  | yes lt ↦ are.done k lt
  | no past ↦ (let none : slice_index_or old k None
      ≡ None = get_or_past old k None (omega (arith, past)) in are.left k (omega (arith, past)) ∙ none ∙ sym
      (ap (real_place real) none))
]

-- One more node gets its real addresses.
pub node_on : (real : ℕ → Option ℕ) (n : ℕ) (old new : List Node) (was now : Node) → AreRealBelow real n old new
    → slice_get new n ≡ Some was → now.word ≡ was.word
    → AreReal real (length was.list.items) was.list.items now.list.items
    → AreRealBelow real (n + 1) old (slice_set new n now)
node_on real n old new was now are at word list =
    let lt : n < length new = slice_get_within new n was at in
    record {
      size = length-set new n now ∙ are.size;
      words = λ a. elim (dec_eq a n) [
        | yes e ↦ ap (λ i. word_in (slice_get (slice_set new n now) i)) e ∙ ap word_in (get_set_same new n now lt) ∙
            word ∙ sym (ap word_in at) ∙ are.words n ∙ ap (λ i. (program_of old).words i) (sym e)
        | no ne ↦ ap word_in (get_set_other new n now a ne) ∙ are.words a
      ];
      done = λ a j low. elim (dec_eq a n) [
        | yes e ↦ ap (λ i. entry_in (slice_get (slice_set new n now) i) j) e ∙ ap (λ o. entry_in o j)
            (get_set_same new n now lt) ∙ all_entries real was.list.items now.list.items list j
            ∙ ap (real_place real) (sym (ap (λ o. entry_in o j) at) ∙ are.left n j (omega arith) ∙ ap
            (λ i. (program_of old).lists i j) (sym e))
        | no ne ↦ ap (λ o. entry_in o j) (get_set_other new n now a ne) ∙ are.done a j (omega (arith, ne))
      ];
      left = λ a j high. (let ne : a ≢ n = omega arith in ap (λ o. entry_in o j) (get_set_other new n now a ne) ∙
          are.left a j (omega arith));
    }

-- When the last node has its real addresses, all have.
pub all_nodes : (real : ℕ → Option ℕ) (n : ℕ) (old new : List Node) → AreRealBelow real n old new → length new ≤ n
    → AreRealNodes real old new
all_nodes real n old new are all = record {
  words = are.words;
  lists = λ a j. elim (dec_lt a n) [
    | yes lt ↦ are.done a j lt
    | no past ↦ (let size = are.size in let long : length old ≤ a = omega (arith, past, size) in
        let none : (program_of old).lists a j ≡ None = ap (λ o. entry_in o j) (slice_get_past old a long) in
        are.left a j (omega (arith, past)) ∙ none ∙ sym (ap (real_place real) none))
  ];
}
