-- Bytes that stand over those of wanted pages.
use Rattle.std.specs.List.{range_with_len}
use Rattle.std.proofs.Common.{ℕ, zero, suc, ◌+◌, ◌-◌, ◌*◌, ◌/◌, ◌<◌, ◌≤◌, ◌≡◌, ◌≢◌, List, Bool, true, false, length}
use Rattle.std.proofs.Common.{get_or, refl}
use Rattle.std.proofs.Common.{replicate, sym, ap, ◌∙◌, inl, inr, arith}
use Rattle.std.specs.Prelude.{slice_range, slice_index_or, slice_set, if◌then◌else◌}
use Rattle.std.proofs.lemmas.Bool.{cases_eq, cases_lt}
use Rattle.std.proofs.lemmas.List.{ext_get_or, get_or-replicate, get_or-set_other, get_or-set_same, get_or_past}
use Rattle.std.proofs.lemmas.List.FromFn.{length-map-range_with_len, get_or-map-range_with_len}
use Rattle.std.proofs.lemmas.Grind.{common_steps}
use Rattle.s370_store.specs.Access.{put}
use Rattle.s370_store.proofs.Puts.{length-put, put_before, put_after}
use Rattle.cp_dat.specs.Copies.{byte_over, written_over}
use Rattle.cp_dat.proofs.Copying.{SameBeside, length-part, part_at, put_within}

-- Writing over pages changes no size.
pub length-over : (wanted : List Bool) (old from : List ℕ) → length (written_over wanted old from) ≡ length from
unfolding written_over
length-over wanted old from = length-map-range_with_len (byte_over wanted old from) 0 (length from)

at_over : (wanted : List Bool) (old from : List ℕ) (a : ℕ) → a < length from
    → get_or (written_over wanted old from) a 0 ≡ byte_over wanted old from a
unfolding written_over
at_over wanted old from a inside =
    get_or-map-range_with_len (byte_over wanted old from) 0 (length from) a a 0 inside (omega arith)

differ : {b : Bool} → b ≡ false → b ≡ true → ⊥
differ away there = cc

choose_first : (b : Bool) (x y : ℕ) → b ≡ true → (if b then x else y) ≡ x
choose_first true x y is = refl
choose_first false x y is = absurd cc

choose_other : (b : Bool) (x y : ℕ) → b ≡ false → (if b then x else y) ≡ y
choose_other false x y is = refl
choose_other true x y is = absurd cc

-- A byte of a wanted page is that which was written.
pub over_wanted : (wanted : List Bool) (old from : List ℕ) (a : ℕ) → a < length from
    → slice_index_or wanted (a / 4096) false ≡ true → get_or (written_over wanted old from) a 0 ≡ get_or from a 0
over_wanted wanted old from a inside it =
    at_over wanted old from a inside ∙
    choose_first (slice_index_or wanted (a / 4096) false) (get_or from a 0) (get_or old a 0) it

-- A byte of another page is as it was.
pub over_beside : (wanted : List Bool) (old from : List ℕ) → length from ≡ length old
    → SameBeside wanted old (written_over wanted old from)
over_beside wanted old from long a away =
    elim (cases_lt a (length from)) [
      | inl inside ↦ at_over wanted old from a inside ∙
          choose_other (slice_index_or wanted (a / 4096) false) (get_or from a 0) (get_or old a 0) away
      | inr past ↦ get_or_past (written_over wanted old from) a 0 (omega (arith, past, length-over wanted old from)) ∙
          sym (get_or_past old a 0 (omega (arith, past, long)))
    ]

bool_cases : {P : Type 0} (b : Bool) → (b ≡ true → P) → (b ≡ false → P) → P
bool_cases true here gone = here refl
bool_cases false here gone = gone refl

-- What has these bytes in wanted pages and the old ones elsewhere is what was written over.
pub over_is : (wanted : List Bool) (old from xs : List ℕ) → length from ≡ length old → length xs ≡ length from
    → ((a : ℕ) → a < length from → slice_index_or wanted (a / 4096) false ≡ true → get_or xs a 0 ≡ get_or from a 0)
    → SameBeside wanted old xs → written_over wanted old from ≡ xs
over_is wanted old from xs long size written beside =
    ext_get_or 0 (written_over wanted old from) xs (length-over wanted old from ∙ sym size)
    (λ a lt. (let inside : a < length from = omega (arith, lt, length-over wanted old from) in
    bool_cases (slice_index_or wanted (a / 4096) false)
    (λ it. over_wanted wanted old from a inside it ∙ sym (written a inside it))
    (λ away. over_beside wanted old from long a away ∙ sym (beside a away))))

-- A part of wanted pages is that of the bytes that were written.
pub part_over : (wanted : List Bool) (old from : List ℕ) (start end : ℕ) → length from ≡ length old → start ≤ end
    → end ≤ length old
    → ((a : ℕ) → start ≤ a → a < end → slice_index_or wanted (a / 4096) false ≡ true)
    → slice_range (written_over wanted old from) start end ≡ slice_range from start end
part_over wanted old from start end long ordered inside there =
    let size : length (written_over wanted old from) ≡ length from = length-over wanted old from in
    let one : length (slice_range (written_over wanted old from) start end) ≡ end - start =
    length-part (written_over wanted old from) start end ordered (omega (arith, size, long, inside)) in
    let two : length (slice_range from start end) ≡ end - start =
    length-part from start end ordered (omega (arith, long, inside)) in
    ext_get_or 0 (slice_range (written_over wanted old from) start end) (slice_range from start end) (one ∙ sym two)
    (λ k lt. (let few : k < end - start = omega (arith, lt, one) in
    part_at (written_over wanted old from) start end k ordered (omega (arith, size, long, inside)) few ∙
    over_wanted wanted old from (start + k) (omega (arith, few, long, inside))
    (there (start + k) (omega arith) (omega (arith, few))) ∙
    sym (part_at from start end k ordered (omega (arith, long, inside)) few)))

-- Bytes put into wanted pages are put into what is written over.
pub put_over : (wanted : List Bool) (old from xs : List ℕ) (start : ℕ) → length from ≡ length old
    → start + length xs ≤ length old
    → ((a : ℕ) → start ≤ a → a < start + length xs → slice_index_or wanted (a / 4096) false ≡ true)
    → written_over wanted old (put from start xs) ≡ put (written_over wanted old from) start xs
put_over wanted old from xs start long inside there =
    let over : List ℕ = written_over wanted old from in
    let size : length over ≡ length from = length-over wanted old from in
    let fits : start + length xs ≤ length over = omega (arith, size, long, inside) in
    let fits_from : start + length xs ≤ length from = omega (arith, long, inside) in
    let kept : length (put from start xs) ≡ length from = length-put from xs start fits_from in
    over_is wanted old (put from start xs) (put over start xs) (kept ∙ long)
    (length-put over xs start fits ∙ size ∙ sym kept)
    (λ a low it. (elim (cases_lt a start) [
      | inl before ↦ put_before over xs start a fits before ∙ over_wanted wanted old from a (omega (arith, low, kept))
          it ∙
          sym (put_before from xs start a fits_from before)
      | inr after ↦ (elim (cases_lt a (start + length xs)) [
        | inl within ↦ put_within over xs start a fits after within ∙
            sym (put_within from xs start a fits_from after within)
        | inr past ↦ put_after over xs start a fits past ∙ over_wanted wanted old from a (omega (arith, low, kept)) it ∙
            sym (put_after from xs start a fits_from past)
      ])
    ]))
    (λ a away. (elim (cases_lt a start) [
      | inl before ↦ put_before over xs start a fits before ∙ over_beside wanted old from long a away
      | inr after ↦ (elim (cases_lt a (start + length xs)) [
        | inl within ↦ absurd (differ away (there a after within))
        | inr past ↦ put_after over xs start a fits past ∙ over_beside wanted old from long a away
      ])
    ]))

no_flags : (n k : ℕ) → slice_index_or (replicate n false) k false ≡ false
no_flags zero k = refl
no_flags (suc n) zero = refl
no_flags (suc n) (suc k) = no_flags n k

-- Where no page is wanted, nothing is written over.
pub over_none : (n : ℕ) (old from : List ℕ) → length from ≡ length old
    → written_over (replicate n false) old from ≡ old
over_none n old from long =
    over_is (replicate n false) old from old long (sym long) (λ a low it. absurd (differ (no_flags n (a / 4096)) it))
    (λ a away. refl)

-- Where every page is wanted, all is written over.
pub over_all : (n : ℕ) (old from : List ℕ) → length from ≡ length old → length old ≤ 4096 * n
    → written_over (replicate n true) old from ≡ from
over_all n old from long pages =
    over_is (replicate n true) old from from long refl (λ a low it. refl)
    (λ a away. (elim (cases_lt a (length old)) [
      | inl inside ↦ absurd (differ away (get_or-replicate n (a / 4096) true false (omega (arith, inside, pages))))
      | inr past ↦ get_or_past from a 0 (omega (arith, past, long)) ∙ sym (get_or_past old a 0 past)
    ]))

-- A page that is copied from the old bytes when it is first wanted shows the bytes that it showed.
pub over_copied : (wanted : List Bool) (old from new : List ℕ) (page : ℕ) → length from ≡ length old
    → length new ≡ length old → page < length wanted
    → slice_index_or wanted page false ≡ false
    → ((a : ℕ) → a / 4096 ≡ page → get_or new a 0 ≡ get_or old a 0)
    → ((a : ℕ) → a / 4096 ≢ page → get_or new a 0 ≡ get_or from a 0)
    → written_over (slice_set wanted page true) old new ≡ written_over wanted old from
over_copied wanted old from new page long size inside away copied others =
    let more : List Bool = slice_set wanted page true in
    let apart : (k : ℕ) → k ≢ page → slice_index_or more k false ≡ slice_index_or wanted k false =
    λ k other. get_or-set_other wanted page k true false other in
    let here : slice_index_or more page false ≡ true = get_or-set_same wanted page true false inside in
    over_is more old new (written_over wanted old from) size (length-over wanted old from ∙ long ∙ sym size)
    (λ a low it. (elim (cases_eq (a / 4096) page) [
      | inl same ↦ over_beside wanted old from long a (ap (λ k. slice_index_or wanted k false) same ∙ away) ∙
          sym (copied a same)
      | inr other ↦ over_wanted wanted old from a (omega (arith, low, long, size)) (sym (apart (a / 4096) other) ∙ it)
          ∙ sym (others a other)
    ]))
    (λ a gone. (elim (cases_eq (a / 4096) page) [
      | inl same ↦ absurd (differ gone (ap (λ k. slice_index_or more k false) same ∙ here))
      | inr other ↦ over_beside wanted old from long a (sym (apart (a / 4096) other) ∙ gone)
    ]))
