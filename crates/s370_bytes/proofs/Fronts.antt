-- The first bytes of eight, as a number and where eight are stored.
use Rattle.std.proofs.Common.{◌≡◌, ⊎_elim, ℕ, zero, suc, ◌+◌, ◌-◌, ◌*◌, ◌/◌, ◌^◌, ◌<◌, ◌≤◌, true, List, [], ◌∷◌, length}
use Rattle.std.proofs.Common.{get_or, take, drop, refl, ap, sym, ◌∙◌, arith}
use Rattle.std.proofs.lemmas.Grind.{common_steps, same_number_lists}
use Rattle.std.proofs.lemmas.List.{get_or-take, get_or_past, length-take-le, take-take}
use Rattle.std.proofs.lemmas.Bool.{cases_lt}
use Rattle.std.specs.Int.{w64, from_be_bytes}
use Rattle.std.specs.List.{slice_range}
use Rattle.s370_store.specs.Access.{put}
use Rattle.s370_bytes.specs.declared.combine.Combine.{Combine}
use Rattle.s370_bytes.specs.Combine.{combined, made_of, lag_of, lagged}
use Rattle.s370_bytes.specs.Strings.{number}
use Rattle.s370_bytes.specs.Translate.{translation, are_disjoint}
use Rattle.s370_bytes.proofs.Changes.{made_is, lagged_source}
use Rattle.s370_bytes.proofs.Places.{length-put, put_below, put_inside, put_above, range_inside}
use Rattle.s370_bytes.proofs.Translated.{made_is as translated_front}

-- the first n of eight bytes are what their number has to the left of the others
pub front_is : (xs : List ℕ) (n : ℕ) → length xs ≡ 8 → n ≤ 8 → ((j : ℕ) → get_or xs j 0 < 256)
    → from_be_bytes w64 xs / 2 ^ (64 - 8 * n) ≡ number (take n xs)
front_is (a ∷ b ∷ c ∷ d ∷ e ∷ f ∷ g ∷ h ∷ []) zero l s low =
    omega (arith, low 0, low 1, low 2, low 3, low 4, low 5, low 6, low 7)
front_is (a ∷ b ∷ c ∷ d ∷ e ∷ f ∷ g ∷ h ∷ []) (suc zero) l s low =
    omega (arith, low 0, low 1, low 2, low 3, low 4, low 5, low 6, low 7)
front_is (a ∷ b ∷ c ∷ d ∷ e ∷ f ∷ g ∷ h ∷ []) (suc (suc zero)) l s low =
    omega (arith, low 0, low 1, low 2, low 3, low 4, low 5, low 6, low 7)
front_is (a ∷ b ∷ c ∷ d ∷ e ∷ f ∷ g ∷ h ∷ []) (suc (suc (suc zero))) l s low =
    omega (arith, low 0, low 1, low 2, low 3, low 4, low 5, low 6, low 7)
front_is (a ∷ b ∷ c ∷ d ∷ e ∷ f ∷ g ∷ h ∷ []) (suc (suc (suc (suc zero)))) l s low =
    omega (arith, low 0, low 1, low 2, low 3, low 4, low 5, low 6, low 7)
front_is (a ∷ b ∷ c ∷ d ∷ e ∷ f ∷ g ∷ h ∷ []) (suc (suc (suc (suc (suc zero))))) l s low =
    omega (arith, low 0, low 1, low 2, low 3, low 4, low 5, low 6, low 7)
front_is (a ∷ b ∷ c ∷ d ∷ e ∷ f ∷ g ∷ h ∷ []) (suc (suc (suc (suc (suc (suc zero)))))) l s low =
    omega (arith, low 0, low 1, low 2, low 3, low 4, low 5, low 6, low 7)
front_is (a ∷ b ∷ c ∷ d ∷ e ∷ f ∷ g ∷ h ∷ []) (suc (suc (suc (suc (suc (suc (suc zero))))))) l s low =
    omega (arith, low 0, low 1, low 2, low 3, low 4, low 5, low 6, low 7)
front_is (a ∷ b ∷ c ∷ d ∷ e ∷ f ∷ g ∷ h ∷ []) (suc (suc (suc (suc (suc (suc (suc (suc zero)))))))) l s low =
    omega (arith, low 0, low 1, low 2, low 3, low 4, low 5, low 6, low 7)
front_is (a ∷ b ∷ c ∷ d ∷ e ∷ f ∷ g ∷ h ∷ []) (suc (suc (suc (suc (suc (suc (suc (suc (suc n))))))))) l s low = absurd
    (omega arith)
front_is ([]) n l s low = absurd (omega arith)
front_is (a ∷ []) n l s low = absurd (omega arith)
front_is (a ∷ b ∷ []) n l s low = absurd (omega arith)
front_is (a ∷ b ∷ c ∷ []) n l s low = absurd (omega arith)
front_is (a ∷ b ∷ c ∷ d ∷ []) n l s low = absurd (omega arith)
front_is (a ∷ b ∷ c ∷ d ∷ e ∷ []) n l s low = absurd (omega arith)
front_is (a ∷ b ∷ c ∷ d ∷ e ∷ f ∷ []) n l s low = absurd (omega arith)
front_is (a ∷ b ∷ c ∷ d ∷ e ∷ f ∷ g ∷ []) n l s low = absurd (omega arith)
front_is (a ∷ b ∷ c ∷ d ∷ e ∷ f ∷ g ∷ h ∷ i ∷ xs) n l s low = absurd (omega arith)

-- the first bytes of eight that were loaded
pub front_of_range : (bytes : List ℕ) (a n : ℕ) → n ≤ 8 → take n (slice_range bytes a (a + 8)) ≡ slice_range bytes a
    (a + n)
front_of_range bytes a n s =
    let e : a + 8 - a ≡ 8 = omega arith in
    let f : a + n - a ≡ n = omega arith in
    rw (e, f) (take-take n 8 (drop a bytes) s)

-- bytes that were loaded all lie in the storage
range_whole : (bytes : List ℕ) (a n : ℕ) → 0 < n → length (slice_range bytes a (a + n)) ≡ n → a + n ≤ length bytes
range_whole bytes a n some l = let e : a + n - a ≡ n = omega arith in let m = rw e at l in grind (arith, common_steps)

-- a byte of the front of a list of bytes, or past it
front_low : (first : List ℕ) (n j : ℕ) → get_or first j 0 < 256 → get_or (take n first) j 0 < 256
front_low first n j low =
    ⊎_elim
    (λ (s : j < n). rw (get_or-take n first j 0 s) low)
    (λ (past : n ≤ j). rw (get_or_past (take n first) j 0 (grind (arith, common_steps))) (omega arith))
    (cases_lt j n)

-- what is made of the first bytes of eight, of which none is read after it was made
pub front_made : (op : Combine) (bytes first other made : List ℕ) (a b n : ℕ) → n ≤ 8 → a + n ≤ length bytes
    → length made ≡ 8
    → first ≡ slice_range bytes a (a + 8) → other ≡ slice_range bytes b (b + 8) → lag_of a b n ≡ n
    → ((j : ℕ) → j < n → get_or made j 0 ≡ combined op (get_or first j 0) (get_or other j 0))
    → take n made ≡ made_of op bytes a b n
front_made op bytes first other made a b n few inside l p q apart e =
    made_is op bytes (slice_range bytes a (a + n)) (slice_range bytes b (b + n)) (take n made) a b n n inside
    (length-take-le n made (omega (arith, l))) refl refl (sym apart)
    (λ j s. (
    let x : get_or first j 0 ≡ get_or (slice_range bytes a (a + n)) j 0 =
    ap (λ (xs : List ℕ). get_or xs j 0) p ∙ range_inside bytes a 8 j (omega (arith, few))
    ∙ sym (range_inside bytes a n j s) in
    let y : get_or other j 0 ≡ get_or (slice_range bytes b (b + n)) j 0 =
    ap (λ (xs : List ℕ). get_or xs j 0) q ∙ range_inside bytes b 8 j (omega (arith, few))
    ∙ sym (range_inside bytes b n j s) in
    let z : lagged (slice_range bytes b (b + n)) (take n made) n j ≡ get_or
    (slice_range bytes b (b + n)) j 0 = lagged_source _ _ n j s in
    get_or-take n made j 0 s ∙ e j s ∙ rw (x, y, z) refl))

-- eight bytes are stored, of which all but the first stay as they are
pub front_put : (bytes first made : List ℕ) (a n : ℕ) → n ≤ 8 → length made ≡ 8 → length first ≡ 8
    → first ≡ slice_range bytes a (a + 8)
    → ((j : ℕ) → n ≤ j → get_or made j 0 ≡ get_or first j 0) → put bytes a made ≡ put bytes a (take n made)
front_put bytes first made a n few l m p rest =
    let inside : a + 8 ≤ length bytes = range_whole bytes a 8 (omega arith) (sym (ap length p) ∙ m) in
    let t : length (take n made) ≡ n = length-take-le n made (omega (arith, l)) in
    let here : a + length made ≤ length bytes = omega (arith, l, inside) in
    let there : a + length (take n made) ≤ length bytes = omega (arith, t, inside) in
    same_number_lists _ _ (length-put bytes made a here ∙ sym (length-put bytes (take n made) a there))
    (λ k small. ⊎_elim
    (λ (low : k < a). put_below bytes made a k here low ∙ sym (put_below bytes (take n made) a k there low))
    (λ (high : a ≤ k). ⊎_elim
    (λ (front : k < a + n). put_inside bytes made a k here high (omega (arith, l))
    ∙ sym (put_inside bytes (take n made) a k there high (omega (arith, t))
    ∙ get_or-take n made (k - a) 0 (omega arith)))
    (λ (past : a + n ≤ k). ⊎_elim
    (λ (back : k < a + 8).
    (let e : a + (k - a) ≡ k = omega arith in
    put_inside bytes made a k here high (omega (arith, l)) ∙ rest (k - a) (omega arith)
    ∙ ap (λ (xs : List ℕ). get_or xs (k - a) 0) p ∙ range_inside bytes a 8 (k - a) (omega arith)
    ∙ ap (λ (i : ℕ). get_or bytes i 0) e
    ∙ sym (put_above bytes (take n made) a k there (omega (arith, t)))))
    (λ (out : a + 8 ≤ k). put_above bytes made a k here (omega (arith, l))
    ∙ sym (put_above bytes (take n made) a k there (omega (arith, t))))
    (cases_lt k (a + 8)))
    (cases_lt k (a + n)))
    (cases_lt k a))

-- the first bytes of eight, translated by a table that has none of them
pub front_translated : (bytes first made : List ℕ) (a t n : ℕ) → are_disjoint a n t ≡ true
    → a + n ≤ length bytes → n ≤ 8
    → length made ≡ 8
    → first ≡ slice_range bytes a (a + 8) → ((j : ℕ) → get_or first j 0 < 256)
    → ((j : ℕ) → j < n → get_or made j 0 ≡ get_or bytes (t + get_or first j 0) 0)
    → take n made ≡ translation bytes a t n
front_translated bytes first made a t n apart inside few l p low e =
    let front : take n first ≡ slice_range bytes a (a + n) = ap (take n) p ∙ front_of_range bytes a n few in
    translated_front bytes (take n first) (slice_range bytes t (t + 256)) (take n made) a t n apart inside
    (length-take-le n made (omega (arith, l))) front refl (λ j. front_low first n j (low j))
    (λ j s. (
    let x : get_or (take n first) j 0 ≡ get_or first j 0 = get_or-take n first j 0 s in
    let y : get_or (slice_range bytes t (t + 256)) (get_or first j 0) 0 ≡ get_or bytes
    (t + get_or first j 0) 0 = range_inside bytes t 256 (get_or first j 0) (low j) in
    get_or-take n made j 0 s ∙ e j s ∙ sym (rw x y)))

-- the first bytes of four that four zeros follow
pub front_of_four : (xs : List ℕ) (n : ℕ) → length xs ≡ 4 → n ≤ 4
    → take n (get_or xs 0 0 ∷ get_or xs 1 0 ∷ get_or xs 2 0 ∷ get_or xs 3 0 ∷ 0 ∷ 0 ∷ 0 ∷ 0 ∷ []) ≡ take n xs
front_of_four (a ∷ b ∷ c ∷ d ∷ []) zero l s = refl
front_of_four (a ∷ b ∷ c ∷ d ∷ []) (suc zero) l s = refl
front_of_four (a ∷ b ∷ c ∷ d ∷ []) (suc (suc zero)) l s = refl
front_of_four (a ∷ b ∷ c ∷ d ∷ []) (suc (suc (suc zero))) l s = refl
front_of_four (a ∷ b ∷ c ∷ d ∷ []) (suc (suc (suc (suc zero)))) l s = refl
front_of_four (a ∷ b ∷ c ∷ d ∷ []) (suc (suc (suc (suc (suc n))))) l s = absurd (omega arith)
front_of_four ([]) n l s = absurd (omega arith)
front_of_four (a ∷ []) n l s = absurd (omega arith)
front_of_four (a ∷ b ∷ []) n l s = absurd (omega arith)
front_of_four (a ∷ b ∷ c ∷ []) n l s = absurd (omega arith)
front_of_four (a ∷ b ∷ c ∷ d ∷ e ∷ xs) n l s = absurd (omega arith)
