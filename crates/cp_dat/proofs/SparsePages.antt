-- Bytes that are zero until they are written: what a read, a write and a new page leave.
use Rattle.std.proofs.Common.{ℕ, zero, suc, ◌+◌, ◌-◌, ◌*◌, ◌/◌, ◌%◌, ◌<◌, ◌≤◌, ◌≡◌, ◌≢◌, ◌⊎◌, ◌++◌, List, [], ◌∷◌}
use Rattle.std.proofs.Common.{length, get_or, take, replicate, refl, sym, ap, ◌∙◌, inl, inr, arith, subst}
use Rattle.std.specs.Prelude.{slice_range, slice_set}
use Rattle.std.proofs.lemmas.Bool.{cases_eq, cases_lt}
use Rattle.std.proofs.lemmas.List.{ext_get_or, get_or-append_right, get_or_append_left, get_or-replicate, length-append}
use Rattle.std.proofs.lemmas.List.{get_or-set_other, get_or-set_same, length-replicate, length-set}
use Rattle.std.proofs.lemmas.List.FromFn.{length-map-range_with_len, get_or-map-range_with_len}
use Rattle.s370_store.specs.Access.{put}
use Rattle.s370_store.proofs.Puts.{length-put, put_before, put_after}
use Rattle.cp_dat.specs.Sparse.{IsSparse, place_in, sparse_bytes, unwritten_count}
use Rattle.cp_dat.proofs.Copying.{length-part, part_at, put_within}

-- There are as many bytes as the pages have.
pub length-sparse : (written places : List ℕ) → length (sparse_bytes written places) ≡ 4096 * length places
unfolding sparse_bytes
length-sparse written places =
    length-map-range_with_len (λ a. get_or written (place_in places a) 0) 0 (4096 * length places)

at_sparse : (written places : List ℕ) (a : ℕ) → a < 4096 * length places
    → get_or (sparse_bytes written places) a 0 ≡ get_or written (place_in places a) 0
unfolding sparse_bytes
at_sparse written places a inside =
    get_or-map-range_with_len (λ a. get_or written (place_in places a) 0) 0 (4096 * length places) a a 0 inside
    (omega arith)

-- the bytes of a page are one after another
same_place : (places : List ℕ) (start k : ℕ) → start % 4096 + k < 4096
    → place_in places (start + k) ≡ place_in places start + k
same_place places start k low =
    let page : (start + k) / 4096 ≡ start / 4096 = omega (arith, low) in
    let offset : (start + k) % 4096 ≡ start % 4096 + k = omega (arith, low) in
    let place : get_or places ((start + k) / 4096) 0 ≡ get_or places (start / 4096) 0 =
    ap (λ p. get_or places p 0) page in
    omega (arith, place, offset)

-- A part of one page is a part of the written pages.
pub part_sparse : (written places : List ℕ) (start n : ℕ) → start + n ≤ 4096 * length places → start % 4096 + n ≤ 4096
    → place_in places start + n ≤ length written
    → slice_range written (place_in places start) (place_in places start + n)
    ≡ slice_range (sparse_bytes written places) start (start + n)
part_sparse written places start n inside one fits =
    let at : ℕ = place_in places start in
    let bytes : List ℕ = sparse_bytes written places in
    let size : length bytes ≡ 4096 * length places = length-sparse written places in
    let left : length (slice_range written at (at + n)) ≡ at + n - at =
    length-part written at (at + n) (omega arith) fits
    in
    let right : length (slice_range bytes start (start + n)) ≡ start + n - start =
    length-part bytes start (start + n) (omega arith) (omega (arith, size, inside)) in
    ext_get_or 0 (slice_range written at (at + n)) (slice_range bytes start (start + n)) (omega (arith, left, right))
    (λ k lt. (let few : k < n = omega (arith, lt, left) in
    part_at written at (at + n) k (omega arith) fits (omega (arith, few)) ∙
    ap (λ p. get_or written p 0) (sym (same_place places start k (omega (arith, few, one)))) ∙
    sym (at_sparse written places (start + k) (omega (arith, few, inside))) ∙
    sym (part_at bytes start (start + n) k (omega arith) (omega (arith, size, inside)) (omega (arith, few)))))

module _ (written places xs : List ℕ) (start capacity : ℕ) (sparse : IsSparse written places capacity)
    (made : 0 < get_or places (start / 4096) 0) (one : start % 4096 + length xs ≤ 4096) where
  -- A part of a page lies among the written pages.
  pub put_fits : place_in places start + length xs ≤ length written
  put_fits = let inside = sparse.inside (start / 4096) in omega (arith, inside, one)

  away : (a : ℕ) → (a < start) ⊎ (start + length xs ≤ a)
      → (place_in places a < place_in places start) ⊎ (place_in places start + length xs ≤ place_in places a)
  away a out =
      elim (cases_eq (get_or places (a / 4096) 0) (get_or places (start / 4096) 0)) [
        | inl same ↦ (elim (sparse.apart (a / 4096) (start / 4096) same) [
          | inl page ↦ (elim out [
            | inl before ↦ inl (omega (arith, same, page, before))
            | inr after ↦ inr (omega (arith, same, page, after))
          ])
          | inr none ↦ absurd (omega (arith, none, same, made))
        ])
        | inr other ↦ (elim (cases_lt (get_or places (a / 4096) 0) (get_or places (start / 4096) 0)) [
          | inl lower ↦ inl (omega (arith, lower))
          | inr higher ↦ inr (omega (arith, higher, other, one))
        ])
      ]

  outside : (a : ℕ) → (a < start) ⊎ (start + length xs ≤ a)
      → get_or (put written (place_in places start) xs) (place_in places a) 0 ≡ get_or written (place_in places a) 0
  outside a out = elim (away a out) [
    | inl before ↦ put_before written xs (place_in places start) (place_in places a) put_fits before
    | inr after ↦ put_after written xs (place_in places start) (place_in places a) put_fits after
  ]

  -- Bytes put into a written page are put into the bytes.
  pub put_sparse : start + length xs ≤ 4096 * length places
      → sparse_bytes (put written (place_in places start) xs) places ≡ put (sparse_bytes written places) start xs
  put_sparse inside =
      let at : ℕ = place_in places start in
      let new : List ℕ = put written at xs in
      let bytes : List ℕ = sparse_bytes written places in
      let size : length bytes ≡ 4096 * length places = length-sparse written places in
      let fits : start + length xs ≤ length bytes = omega (arith, size, inside) in
      let long : length (sparse_bytes new places) ≡ 4096 * length places = length-sparse new places in
      ext_get_or 0 (sparse_bytes new places) (put bytes start xs)
      (long ∙ sym size ∙ sym (length-put bytes xs start fits))
      (λ a lt. (let low : a < 4096 * length places = omega (arith, lt, long) in
      at_sparse new places a low ∙
      elim (cases_lt a start) [
        | inl before ↦ outside a (inl before) ∙ sym (at_sparse written places a low) ∙
            sym (put_before bytes xs start a fits before)
        | inr after ↦ (elim (cases_lt a (start + length xs)) [
          | inl within ↦ (let is : start + (a - start) ≡ a = omega (arith, after) in
              let place : place_in places a ≡ at + (a - start) =
              ap (λ i. place_in places i) (sym is) ∙
              same_place places start (a - start) (omega (arith, after, within, one)) in
              let back : at + (a - start) - at ≡ a - start = omega arith in
              ap (λ p. get_or new p 0) place ∙
              put_within written xs at (at + (a - start)) put_fits (omega arith) (omega (arith, after, within)) ∙
              ap (λ k. get_or xs k 0) back ∙ sym (put_within bytes xs start a fits after within))
          | inr past ↦ outside a (inr past) ∙ sym (at_sparse written places a low) ∙
              sym (put_after bytes xs start a fits past)
        ])
      ]))

  -- A write in a written page keeps what is always so.
  pub put_kept : IsSparse (put written (place_in places start) xs) places capacity
  put_kept =
      let size : length (put written (place_in places start) xs) ≡ length written =
      length-put written xs (place_in places start) put_fits in
      record {
        few = sparse.few;
        fits = sparse.fits;
        whole = (let whole = sparse.whole in omega (arith, whole, size));
        blank = λ k low. put_before written xs (place_in places start) k put_fits (omega (arith, low, made)) ∙
            sparse.blank k low;
        inside = λ page. (let inside = sparse.inside page in omega (arith, inside, size));
        apart = sparse.apart;
        left = (let left = sparse.left in omega (arith, left, size));
      }

-- No bytes that are written are none.
pub none_of : (xs : List ℕ) → length xs ≡ 0 → xs ≡ []
none_of [] none = refl
none_of (x ∷ xs) none = absurd (omega (arith, none))

-- ---- a new page
written_fewer : (places : List ℕ) (page n : ℕ) → page < length places → get_or places page 0 ≡ 0
    → suc (unwritten_count (slice_set places page (suc n))) ≡ unwritten_count places
written_fewer [] page n low none = absurd (omega (arith, low))
written_fewer (zero ∷ places) zero n low none = refl
written_fewer (suc p ∷ places) zero n low none = absurd (omega (arith, none))
written_fewer (zero ∷ places) (suc page) n low none = ap suc (written_fewer places page n (omega (arith, low)) none)
written_fewer (suc p ∷ places) (suc page) n low none = written_fewer places page n (omega (arith, low)) none

module _ (written places : List ℕ) (page capacity : ℕ) (sparse : IsSparse written places capacity)
    (low : page < length places) (none : get_or places page 0 ≡ 0) where
  abbrev new : List ℕ
  new = written ++ replicate 4096 0

  abbrev place : ℕ
  place = length written / 4096

  abbrev more : List ℕ
  more = slice_set places page place

  whole : place * 4096 ≡ length written
  whole = let whole = sparse.whole in omega (arith, whole)

  some : 0 < place
  some = let inside = sparse.inside page in omega (arith, inside)

  fewer : suc (unwritten_count more) ≡ unwritten_count places
  fewer =
      let is : suc (place - 1) ≡ place = omega (arith, some) in
      subst (λ (n : ℕ). suc (unwritten_count (slice_set places page n)) ≡ unwritten_count places) is
      (written_fewer places page (place - 1) low none)

  -- There is memory for one page more.
  pub page_fits : length written + 4096 ≤ capacity
  page_fits =
      let left = sparse.left in
      let fits = sparse.fits in
      omega (arith, left, fits, fewer)

  -- Its number is small.
  pub place_few : length written / 4096 ≤ 4294967295
  place_few =
      let left = sparse.left in
      let few = sparse.few in
      omega (arith, left, few, fewer)

  -- The place of the new page is after all others.
  pub place_some : 0 < get_or (slice_set places page (length written / 4096)) page 0
  place_some = let is = get_or-set_same places page place 0 low in omega (arith, is, some)

  here : get_or more page 0 ≡ place
  here = get_or-set_same places page place 0 low

  beside : (other : ℕ) → other ≢ page → get_or more other 0 ≡ get_or places other 0
  beside other apart = get_or-set_other places page other place 0 apart

  longer : length new ≡ length written + 4096
  longer =
      let zeros : List ℕ = replicate 4096 0 in
      let few : length zeros ≡ 4096 = length-replicate {A = ℕ} 4096 0 in
      let both : length new ≡ length written + length zeros = length-append written zeros in
      omega (arith, both, few)

  count : length more ≡ length places
  count = length-set places page place

  old_byte : (k : ℕ) → k < length written → get_or new k 0 ≡ get_or written k 0
  old_byte k inside = get_or_append_left written (replicate 4096 0) 0 k inside

  new_byte : (k : ℕ) → k < 4096 → get_or new (length written + k) 0 ≡ 0
  new_byte k few =
      let back : length written + k - length written ≡ k = omega arith in
      get_or-append_right written (replicate 4096 0) (length written) (length written + k) 0 refl (omega arith) ∙
      ap (λ i. get_or (replicate 4096 0) i 0) back ∙ get_or-replicate 4096 k 0 0 few

  byte_same : (a : ℕ) → get_or new (place_in more a) 0 ≡ get_or written (place_in places a) 0
  byte_same a = elim (cases_eq (a / 4096) page) [
    | inl is ↦ (let now : get_or more (a / 4096) 0 ≡ place = ap (λ p. get_or more p 0) is ∙ here in
        let before : get_or places (a / 4096) 0 ≡ 0 = ap (λ p. get_or places p 0) is ∙ none in
        let at : place_in more a ≡ length written + a % 4096 = omega (arith, now, whole) in
        let zeros : place_in places a ≡ a % 4096 = omega (arith, before) in
        ap (λ p. get_or new p 0) at ∙ new_byte (a % 4096) (omega arith) ∙
        sym (ap (λ p. get_or written p 0) zeros ∙ sparse.blank (a % 4096) (omega arith)))
    | inr other ↦ (let same : get_or more (a / 4096) 0 ≡ get_or places (a / 4096) 0 = beside (a / 4096) other in
        let at : place_in more a ≡ place_in places a = omega (arith, same) in
        let inside = sparse.inside (a / 4096) in
        ap (λ p. get_or new p 0) at ∙ old_byte (place_in places a) (omega (arith, inside)))
  ]

  -- A new page changes no byte.
  pub made_same : sparse_bytes (written ++ replicate 4096 0) (slice_set places page (length written / 4096))
      ≡ sparse_bytes written places
  made_same =
      let long : length (sparse_bytes new more) ≡ 4096 * length more = length-sparse new more in
      let size : length (sparse_bytes written places) ≡ 4096 * length places = length-sparse written places in
      ext_get_or 0 (sparse_bytes new more) (sparse_bytes written places) (omega (arith, long, size, count))
      (λ a lt. at_sparse new more a (omega (arith, lt, long)) ∙ byte_same a ∙
      sym (at_sparse written places a (omega (arith, lt, long, count))))

  inside_more : (other : ℕ) → get_or more other 0 * 4096 + 4096 ≤ length new
  inside_more other = elim (cases_eq other page) [
    | inl is ↦ (let now : get_or more other 0 ≡ place = ap (λ p. get_or more p 0) is ∙ here in
        omega (arith, now, whole, longer))
    | inr apart ↦ (let same = beside other apart in
        let inside = sparse.inside other in
        omega (arith, same, inside, longer))
  ]

  alone : (other : ℕ) → get_or places other 0 ≡ place → ⊥
  alone other is = let inside = sparse.inside other in absurd (omega (arith, is, inside, whole))

  apart_more : (one two : ℕ) → get_or more one 0 ≡ get_or more two 0 → (one ≡ two) ⊎ (get_or more one 0 ≡ 0)
  apart_more one two same = elim (cases_eq one page) [
    | inl first ↦ (elim (cases_eq two page) [
      | inl second ↦ inl (first ∙ sym second)
      | inr other ↦ absurd (alone two
          (sym (beside two other) ∙ sym same ∙ ap (λ p. get_or more p 0) first ∙ here))
    ])
    | inr other ↦ (elim (cases_eq two page) [
      | inl second ↦ absurd (alone one
          (sym (beside one other) ∙ same ∙ ap (λ p. get_or more p 0) second ∙ here))
      | inr others ↦ (elim (sparse.apart one two (sym (beside one other) ∙ same ∙ beside two others)) [
        | inl is ↦ inl is
        | inr blank ↦ inr (beside one other ∙ blank)
      ])
    ])
  ]

  -- A new page keeps what is always so.
  pub made_kept : (room : ℕ) → capacity ≤ room
      → IsSparse (written ++ replicate 4096 0) (slice_set places page (length written / 4096)) room
  made_kept room grown = record {
    few = (let few = sparse.few in omega (arith, few, count));
    fits = (let fits = sparse.fits in omega (arith, fits, count, grown));
    whole = (let before = sparse.whole in omega (arith, before, longer));
    blank = λ k few. (let inside = sparse.inside page in old_byte k (omega (arith, few, inside)) ∙ sparse.blank k few);
    inside = inside_more;
    apart = apart_more;
    left = (let left = sparse.left in omega (arith, left, longer, fewer, count));
  }

-- ---- no page
no_place : (n k : ℕ) → ◌≡◌ {A = ℕ} (get_or (replicate n 0) k 0) 0
no_place zero k = refl
no_place (suc n) zero = refl
no_place (suc n) (suc k) = no_place n k

all_unwritten : (n : ℕ) → unwritten_count (replicate n 0) ≡ n
all_unwritten zero = refl
all_unwritten (suc n) = ap suc (all_unwritten n)

module _ (written : List ℕ) (n : ℕ) (long : length written ≡ 4096) (blank : (k : ℕ) → k < 4096 → get_or written k 0 ≡ 0)
  where
    count_none : length {A = ℕ} (replicate n 0) ≡ n
    count_none = length-replicate n 0

    -- Where no page is written, what is always so is so.
    pub none_kept : (capacity : ℕ) → n ≤ 4294967295 → 4096 * (n + 1) ≤ capacity
        → IsSparse written (replicate n 0) capacity
    none_kept capacity few fits = record {
      few = omega (arith, few, count_none);
      fits = omega (arith, fits, count_none);
      whole = omega (arith, long);
      blank = blank;
      inside = λ page. (let place = no_place n page in omega (arith, place, long));
      apart = λ page other same. inr (no_place n page);
      left = (let all = all_unwritten n in omega (arith, all, long, count_none));
    }

    -- Where no page is written, all bytes are zero.
    pub none_bytes : sparse_bytes written (replicate n 0) ≡ replicate (4096 * n) 0
    none_bytes =
        let none : List ℕ = replicate n 0 in
        let zeros : List ℕ = replicate (4096 * n) 0 in
        let count : length none ≡ n = count_none in
        let size : length (sparse_bytes written none) ≡ 4096 * length none = length-sparse written none in
        let long : length zeros ≡ 4096 * n = length-replicate {A = ℕ} (4096 * n) 0 in
        ext_get_or 0 (sparse_bytes written none) zeros (omega (arith, size, long, count))
        (λ a lt. (let place : place_in none a ≡ a % 4096 =
        (let first : get_or none (a / 4096) 0 ≡ 0 = no_place n (a / 4096) in omega (arith, first)) in
        at_sparse written none a (omega (arith, lt, size)) ∙ ap (λ p. get_or written p 0) place ∙
        blank (a % 4096) (omega arith) ∙ sym (get_or-replicate (4096 * n) a 0 0 (omega (arith, lt, size, count)))))
