-- Bytes combined from left to right, against a string that is made apart and put in one piece.
use Rattle.std.proofs.Common.{◌≡◌, ℕ, zero, suc, ◌+◌, ◌-◌, ◌<◌, ◌≤◌, List, length, replicate, get_or, set, ⊎_elim, refl}
use Rattle.std.proofs.Common.{ap, sym, ◌∙◌, arith, length-set, add-one}
use Rattle.std.proofs.lemmas.Grind.{same_number_lists}
use Rattle.std.proofs.lemmas.List.{get_or-replicate, get_or-set_same, get_or-set_other, length-replicate}
use Rattle.std.proofs.lemmas.Bool.{cases_lt, cases_eq}
use Rattle.std.proofs.lemmas.Bool.Decides.{nat_tests}
use Rattle.std.specs.List.{slice_range}
use Rattle.s370_store.specs.Access.{put}
use Rattle.s370_bytes.specs.declared.combine.Combine.{Combine}
use Rattle.s370_bytes.specs.declared.combine.Combine.TheVariants.{Move}
use Rattle.s370_bytes.specs.Combine.{combined, changed, made_of, lagged, lag_of}
use Rattle.s370_bytes.proofs.Places.{length-put, put_below, put_inside, put_above, range_inside, range_put}

-- what the first k changes leave
record Sofar (bytes made now : List ℕ) (a k : ℕ) : Type 0 where
  size : length now ≡ length bytes
  inside : (j : ℕ) → a ≤ j → j < a + k → get_or now j 0 ≡ get_or made (j - a) 0
  below : (j : ℕ) → j < a → get_or now j 0 ≡ get_or bytes j 0
  above : (j : ℕ) → a + k ≤ j → get_or now j 0 ≡ get_or bytes j 0

lag_near : (a b n : ℕ) → b < a → a - b < n → lag_of a b n ≡ a - b
lag_near a b n l h = grind (arith, nat_tests)

lag_far : (a b n : ℕ) → n ≤ a - b → lag_of a b n ≡ n
lag_far a b n h = grind (arith, nat_tests)

lag_after : (a b n : ℕ) → a ≤ b → lag_of a b n ≡ n
lag_after a b n h = grind (arith, nat_tests)

-- Up to the lag the source is read as it was.
pub lagged_source : (source made : List ℕ) (lag k : ℕ) → k < lag → lagged source made lag k ≡ get_or source k 0
lagged_source source made lag k h = grind (arith, nat_tests)

lagged_made : (source made : List ℕ) (lag k : ℕ) → lag ≤ k → lagged source made lag k ≡ get_or made (k - lag) 0
lagged_made source made lag k h = grind (arith, nat_tests)

-- the byte of the second operand that change k reads
reads : (bytes made now : List ℕ) (a b n k : ℕ) → k < n → Sofar bytes made now a k
    → get_or now (b + k) 0 ≡ lagged (slice_range bytes b (b + n)) made (lag_of a b n) k
reads bytes made now a b n k h s =
    ⊎_elim
    (λ (low : b < a). ⊎_elim
    (λ (near : a - b < n). ⊎_elim
    (λ (first : k < a - b). s.below (b + k) (omega arith) ∙ sym
    (rw (lag_near a b n low near) (lagged_source _ made (a - b) k first ∙ range_inside bytes b n k h)))
    (λ (later : a - b ≤ k). s.inside (b + k) (omega arith) (omega arith)
    ∙ ap (λ (i : ℕ). get_or made i 0) (let e : b + k - a ≡ k - (a - b) = omega arith in e)
    ∙ sym (rw (lag_near a b n low near) (lagged_made (slice_range bytes b (b + n)) made (a - b) k later)))
    (cases_lt k (a - b)))
    (λ (far : n ≤ a - b). s.below (b + k) (omega arith) ∙ sym
    (rw (lag_far a b n far) (lagged_source _ made n k h ∙ range_inside bytes b n k h)))
    (cases_lt (a - b) n))
    (λ (high : a ≤ b). s.above (b + k) (omega arith) ∙ sym (rw (lag_after a b n high) (lagged_source _ made n k h
    ∙ range_inside bytes b n k h)))
    (cases_lt b a)

sofar_more : (op : Combine) (bytes made now : List ℕ) (a b n k : ℕ) → k < n → a + n ≤ length bytes
    → get_or made k 0 ≡ combined op (get_or bytes (a + k) 0)
    (lagged (slice_range bytes b (b + n)) made (lag_of a b n) k)
    → Sofar bytes made now a k → Sofar bytes made (set now (a + k)
    (combined op (get_or now (a + k) 0) (get_or now (b + k) 0))) a (k + 1)
sofar_more op bytes made now a b n k h l e s =
    let r = reads bytes made now a b n k h s in
    let t = s.above (a + k) (omega arith) in
    let v : combined op (get_or now (a + k) 0) (get_or now (b + k) 0) ≡ get_or made k 0 = cc in
    record {
      size = simp length-set s.size;
      inside = λ j low high. ⊎_elim
          (λ (same : j ≡ a + k).
          (let w : j - a ≡ k = omega arith in
          rw (w, same) (get_or-set_same now (a + k) _ 0 (omega (arith, s.size)) ∙ v)))
          (λ (other : j ≡ a + k → ⊥). get_or-set_other now (a + k) j _ 0 other ∙ s.inside j low (omega arith))
          (cases_eq j (a + k));
      below = λ j small. get_or-set_other now (a + k) j _ 0 (omega arith) ∙ s.below j small;
      above = λ j large. get_or-set_other now (a + k) j _ 0 (omega arith) ∙ s.above j (omega arith);
    }

sofar : (op : Combine) (bytes made : List ℕ) (a b n k : ℕ) → k ≤ n → a + n ≤ length bytes
    → ((j : ℕ) → j < n → get_or made j 0 ≡ combined op (get_or bytes (a + j) 0)
    (lagged (slice_range bytes b (b + n)) made (lag_of a b n) j))
    → Sofar bytes made (changed op bytes a b k) a k
sofar op bytes made a b n zero h l e = record {
  size = refl;
  inside = λ j low high. absurd (omega arith);
  below = λ j s. refl;
  above = λ j s. refl;
}
sofar op bytes made a b n (suc k) h l e =
    rw (← add-one) (sofar_more op bytes made _ a b n k h l (e k h) (sofar op bytes made a b n k (omega arith) l e))

pub put_changed : (op : Combine) (bytes made : List ℕ) (a b n : ℕ) → a + n ≤ length bytes → length made ≡ n
    → ((j : ℕ) → j < n → get_or made j 0 ≡ combined op (get_or bytes (a + j) 0)
    (lagged (slice_range bytes b (b + n)) made (lag_of a b n) j))
    → changed op bytes a b n ≡ put bytes a made
put_changed op bytes made a b n l m e =
    let s = sofar op bytes made a b n n (omega arith) l e in
    same_number_lists _ _ (s.size ∙ sym (length-put bytes made a (omega arith)))
    (λ k h. ⊎_elim
    (λ (low : k < a). s.below k low ∙ sym (put_below bytes made a k (omega arith) low))
    (λ (high : a ≤ k). ⊎_elim
    (λ (within : k < a + n). s.inside k high within ∙ sym (put_inside bytes made a k (omega arith) high (omega arith)))
    (λ (out : a + n ≤ k). s.above k out ∙ sym (put_above bytes made a k (omega arith) (omega arith)))
    (cases_lt k (a + n)))
    (cases_lt k a))

-- what a buffer leaves that was loaded, combined and stored
combined_is : (op : Combine) (bytes first source made : List ℕ) (a b n lag : ℕ) → a + n ≤ length bytes → length made ≡ n
    → first ≡ slice_range bytes a (a + n) → source ≡ slice_range bytes b (b + n) → lag ≡ lag_of a b n
    → ((j : ℕ) → j < n → get_or made j 0 ≡ combined op (get_or first j 0) (lagged source made lag j))
    → changed op bytes a b n ≡ put bytes a made
combined_is op bytes first source made a b n lag l m p q r e =
    put_changed op bytes made a b n l m (λ j s. (
    let f : get_or first j 0 ≡ get_or bytes (a + j) 0 = ap (λ (xs : List ℕ). get_or xs j 0) p
    ∙ range_inside bytes a n j s in
    let h = e j s in
    rw (f, q, r) at h))

-- the bytes of such a buffer
pub made_is : (op : Combine) (bytes first source made : List ℕ) (a b n lag : ℕ) → a + n ≤ length bytes → length made ≡ n
    → first ≡ slice_range bytes a (a + n) → source ≡ slice_range bytes b (b + n) → lag ≡ lag_of a b n
    → ((j : ℕ) → j < n → get_or made j 0 ≡ combined op (get_or first j 0) (lagged source made lag j))
    → made ≡ made_of op bytes a b n
made_is op bytes first source made a b n lag l m p q r e =
    sym (ap (λ (xs : List ℕ). slice_range xs a (a + n)) (combined_is op bytes first source made a b n lag l m p q r e)
    ∙ range_put bytes made a n l m)

-- a byte is made of the one before it, where a string is read one byte before where it is written
pub lag_one : (a b n : ℕ) → 0 < n → a ≡ b + 1 → lag_of a b n ≡ 1
lag_one a b n some e = grind (arith, nat_tests)

-- n bytes that are all the first one of the source
pub filled_is : (bytes first source made : List ℕ) (a b n x k : ℕ) → 0 < n → a ≡ b + 1 → a + n ≤ length bytes
    → first ≡ slice_range bytes a (a + n)
    → source ≡ slice_range bytes b (b + n) → x ≡ get_or bytes b 0 → k ≡ n → made ≡ replicate k x
    → made ≡ made_of Move bytes a b n
filled_is bytes first source made a b n x k some e l p q r count fill =
    let m : length made ≡ n = ap length fill ∙ length-replicate k x ∙ count in
    let each : (j : ℕ) → j < n → get_or made j 0 ≡ x = λ j s. ap (λ (xs : List ℕ). get_or xs j 0) fill
    ∙ get_or-replicate k j x 0 (omega arith) in
    made_is Move bytes first source made a b n 1 l m p q (sym (lag_one a b n some e))
    (λ j s. ⊎_elim
    (λ (low : j < 1).
    (let zero_it_is : j ≡ 0 = omega arith in
    let h : get_or source 0 0 ≡ get_or bytes b 0 = ap (λ (xs : List ℕ). get_or xs 0 0) q ∙ range_inside bytes b n 0 some
    ∙ ap (λ (i : ℕ). get_or bytes i 0) (let z : b + 0 ≡ b = omega arith in z) in
    each j s ∙ r ∙ sym h ∙ ap (λ (i : ℕ). get_or source i 0) (sym zero_it_is)
    ∙ sym (lagged_source source made 1 j low)))
    (λ (high : 1 ≤ j). each j s ∙ sym (each (j - 1) (omega arith)) ∙ sym (lagged_made source made 1 j high))
    (cases_lt j 1))
