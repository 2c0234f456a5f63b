-- The pages of a user in their frames: what is read and written there.
use Rattle.std.proofs.Common.{zero, suc, zero-add, ◌≡◌, ◌≢◌, ℕ, ◌+◌, ◌-◌, ◌*◌, ◌/◌, ◌%◌, ◌<◌, ◌≤◌, Bool, true, false}
use Rattle.std.proofs.Common.{◌&&◌, List, ◌++◌, length, get_or, take, drop, map, Option, Some, None, refl, sym, ◌∙◌, ap}
use Rattle.std.proofs.Common.{arith, ext_get_or, length-append, length-drop}
use Rattle.std.proofs.Math.Decide.{dec_lt}
use Rattle.std.specs.Prelude.{◌==◌, nat_le, if◌then◌else◌, replicate}
use Rattle.std.specs.List.{range_with_len, slice_range}
use Rattle.std.proofs.lemmas.List.{get_or-take, get_or-drop, get_or-append_right, get_or_append_left, length-take-le}
use Rattle.std.proofs.lemmas.List.{length-replicate}
use Rattle.std.proofs.lemmas.List.FromFn.{get_or-map-range_with_len, length-map-range_with_len}
use Rattle.std.proofs.lemmas.Bool.Decides.{nat_tests}
use Rattle.s370_store.specs.Access.{put}
use Rattle.s370_store.specs.declared.Page.{Page}
use Rattle.cp_frames.specs.declared.numbers.UserPage.{UserPage}
use Rattle.cp_frames.specs.Layout.{frame_of}
use Rattle.cp_frames.proofs.Layouts.{dec_eq}
use Rattle.cp_frames.proofs.Tables.{page_is}
use Rattle.cp_frames.proofs.Parts.{page_range, length-put}
use Rattle.cp_ccw.specs.Layout.{length-framed, is_frame, own_page, page_at, byte_of, key_of, framed_bytes, real_bytes}
use Rattle.cp_ccw.specs.Layout.{real_keys, real_of}

put_before : (bytes xs : List ℕ) (start a : ℕ) → start + length xs ≤ length bytes → a < start
    → get_or (put bytes start xs) a 0 ≡ get_or bytes a 0
unfolding put
put_before bytes xs start a h lt =
    let long : length (take start bytes) ≡ start = length-take-le start bytes (omega arith) in
    get_or_append_left (take start bytes) (xs ++ drop (length xs) (drop start bytes)) 0 a (omega arith) ∙ get_or-take
    start bytes a 0 lt

put_within : (bytes xs : List ℕ) (start a : ℕ) → start + length xs ≤ length bytes → start ≤ a → a < start + length xs
    → get_or (put bytes start xs) a 0 ≡ get_or xs (a - start) 0
unfolding put
put_within bytes xs start a h low high =
    let long : length (take start bytes) ≡ start = length-take-le start bytes (omega arith) in
    get_or-append_right (take start bytes) (xs ++ drop (length xs) (drop start bytes)) start a 0 long low ∙
    get_or_append_left xs (drop (length xs) (drop start bytes)) 0 (a - start) (omega arith)

put_after : (bytes xs : List ℕ) (start a : ℕ) → start + length xs ≤ length bytes → start + length xs ≤ a
    → get_or (put bytes start xs) a 0 ≡ get_or bytes a 0
unfolding put
put_after bytes xs start a h low =
    let long : length (take start bytes) ≡ start = length-take-le start bytes (omega arith) in
    let place : start + (length xs + (a - start - length xs)) ≡ a = omega arith in
    get_or-append_right (take start bytes) (xs ++ drop (length xs) (drop start bytes)) start a 0 long (omega arith)
    ∙ get_or-append_right xs (drop (length xs) (drop start bytes)) (length xs) (a - start) 0 refl (omega arith)
    ∙ get_or-drop (length xs) (drop start bytes) (a - start - length xs) 0
    ∙ get_or-drop start bytes (length xs + (a - start - length xs)) 0
    ∙ ap (λ k. get_or bytes k 0) place

get_or-slice_range : (xs : List ℕ) (a b k : ℕ) → k < b - a → get_or (slice_range xs a b) k 0 ≡ get_or xs (a + k) 0
get_or-slice_range xs a b k lt = get_or-take (b - a) (drop a xs) k 0 lt ∙ get_or-drop a xs k 0

length-slice_range_le : (xs : List ℕ) (a b : ℕ) → a ≤ b → b ≤ length xs → length (slice_range xs a b) ≡ b - a
length-slice_range_le xs a b le high = length-take-le (b - a) (drop a xs) (rw length-drop (omega arith))

-- what is picked
pick : (b : Bool) (x p : ℕ) → (if b then Some x else None) ≡ Some p → (b ≡ true) × (x ≡ p)
pick true x p e = (refl, cc)
pick false x p e = cc

both : (a b : Bool) → a && b ≡ true → (a ≡ true) × (b ≡ true)
both true true e = (refl, refl)
both true false e = cc
both false b e = cc

frame_is : (frame : ℕ) (o : Option ℕ) → is_frame frame o ≡ true → o ≡ Some frame
frame_is frame None e = cc
frame_is frame (Some other) e = let same : other ≡ frame = grind (arith, nat_tests) in ap Some same

is_le : (a b : ℕ) → nat_le a b ≡ true → a ≤ b
is_le a b e = grind (arith, nat_tests)

pub record IsPageAt (owners : List (Option UserPage)) (user size frame page : ℕ) : Type 0 where
  pub there : frame_of owners user page ≡ Some frame
  pub whole : page * 4096 + 4096 ≤ size

module _ (owners : List (Option UserPage)) (user size frame : ℕ) where
  own_is : (o : Option UserPage) (page : ℕ) → own_page owners user size frame o ≡ Some page
      → IsPageAt owners user size frame page
  own_is None page e = cc
  own_is (Some there) page e =
      let p = pick _ there.page.0 page e in
      let q = both _ _ p.0 in
      let r = both _ _ q.1 in
      let whole : there.page.0 * 4096 + 4096 ≤ size = is_le _ _ r.1 in
      record {
        there = ap (frame_of owners user) (sym p.1) ∙ frame_is frame _ r.0;
        whole = (let same = p.1 in omega arith);
      }

  pub page_at_is : (page : ℕ) → page_at owners user size frame ≡ Some page → IsPageAt owners user size frame page
  page_at_is page e = own_is (get_or owners frame None) page e

  -- what is reported of the page in a frame
  pub page_at_some : (page : ℕ) → frame_of owners user page ≡ Some frame → page * 4096 + 4096 ≤ size
      → page_at owners user size frame ≡ Some page
  page_at_some page there whole =
      let own : (user == user) ≡ true = grind (arith, nat_tests) in
      let same : (frame == frame) ≡ true = grind (arith, nat_tests) in
      let fits : nat_le (page * 4096 + 4096) size ≡ true = grind (arith, nat_tests) in
      rw (page_is owners user page frame there, own, there, same, fits) refl

  pub page_at_part : (page : ℕ) → frame_of owners user page ≡ Some frame → size < page * 4096 + 4096
      → page_at owners user size frame ≡ None
  page_at_part page there part =
      let fits : nat_le (page * 4096 + 4096) size ≡ false = grind (arith, nat_tests) in
      rw (page_is owners user page frame there, there, fits) (by_own (user == user) (frame == frame))
    where
      by_own : (a b : Bool) → (if a && (b && false) then Some page else None) ≡ None
      by_own true true = refl
      by_own true false = refl
      by_own false b = refl

  none_of : (o : Option UserPage) → ((p : Page) → frame_of owners user p.0 ≡ Some frame → ⊥)
      → own_page owners user size frame o ≡ None
  none_of None not = refl
  none_of (Some there) not = by_own (there.user == user) (is_frame frame (frame_of owners user there.page.0)) refl
    where
      by_own : (a b : Bool) → is_frame frame (frame_of owners user there.page.0) ≡ b
          → (if a && (b && nat_le (there.page.0 * 4096 + 4096) size) then Some there.page.0 else None) ≡ None
      by_own true true is = absurd (not there.page (frame_is frame (frame_of owners user there.page.0) is))
      by_own true false is = refl
      by_own false b is = refl

  pub page_at_none : ((p : Page) → frame_of owners user p.0 ≡ Some frame → ⊥) → page_at owners user size frame ≡ None
  page_at_none not = none_of (get_or owners frame None) not

-- Real storage has two keys for each frame, and some for the area of copies.
pub length-keys : (storage keys : List ℕ) (owners : List (Option UserPage)) (user area : ℕ)
    → length (real_keys storage keys owners user area) ≡ 2 * length owners + (area + 2047) / 2048
unfolding real_keys
length-keys storage keys owners user area =
    length-append _ (replicate ((area + 2047) / 2048) 0) ∙ ap
    (λ k. k + length {A = ℕ} (replicate ((area + 2047) / 2048) 0))
    (length-map-range_with_len _ 0 (2 * length owners)) ∙ ap (λ k. 2 * length owners + k)
    (length-replicate ((area + 2047) / 2048) 0)

-- A byte of real storage is that of the page which is in its frame.
pub get_framed : (storage : List ℕ) (owners : List (Option UserPage)) (user a : ℕ) → a < 4096 * length owners
    → get_or (framed_bytes storage owners user) a 0
    ≡ byte_of storage (page_at owners user (length storage) (a / 4096)) (a % 4096)
unfolding framed_bytes
get_framed storage owners user a lt = get_or-map-range_with_len _ 0 (4096 * length owners) a a 0 lt (zero-add a)

-- a read within one frame is a read within its page
pub framed_range : (storage area : List ℕ) (owners : List (Option UserPage)) (user start page n : ℕ)
    → page_at owners user (length storage) (start / 4096) ≡ Some page → start / 4096 < length owners
    → start % 4096 + n ≤ 4096
    → slice_range storage (page * 4096 + start % 4096) (page * 4096 + start % 4096 + n)
    ≡ slice_range (real_bytes storage owners user area) start (start + n)
framed_range storage area owners user start page n at frame one =
    let is = page_at_is owners user (length storage) (start / 4096) page at in
    let whole : page * 4096 + 4096 ≤ length storage = is.whole in
    let g = page * 4096 + start % 4096 in
    let bytes = slice_range storage (page * 4096) (page * 4096 + 4096) in
    let full : length bytes ≡ 4096 =
    length-slice_range_le storage (page * 4096) (page * 4096 + 4096) (omega arith) whole ∙ omega arith in
    let long : length (framed_bytes storage owners user) ≡ 4096 * length owners = length-framed storage owners user in
    let all : length (real_bytes storage owners user area) ≡ 4096 * length owners + length area =
    length-append (framed_bytes storage owners user) area ∙ ap (λ k. k + length area) long in
    let same_place : g % 4096 ≡ start % 4096 = omega arith in
    let of_guest : slice_range bytes (g % 4096) (g % 4096 + n) ≡ slice_range storage g (g + n) =
    page_range storage bytes g n full (omega arith) (omega arith)
    (λ a lt e. sym (get_or-slice_range storage (page * 4096) (page * 4096 + 4096) (a % 4096) (omega arith) ∙ ap
    (λ k. get_or storage k 0) (omega arith))) in
    let of_real : slice_range bytes (start % 4096) (start % 4096 + n)
    ≡ slice_range (real_bytes storage owners user area) start (start + n) =
    page_range (real_bytes storage owners user area) bytes start n full one (omega arith)
    (λ a lt e. get_or_append_left (framed_bytes storage owners user) area 0 a (omega arith)
    ∙ get_framed storage owners user a (omega arith)
    ∙ ap (λ o. byte_of storage o (a % 4096)) (ap (page_at owners user (length storage)) e ∙ at)
    ∙ sym (get_or-slice_range storage (page * 4096) (page * 4096 + 4096) (a % 4096) (omega arith))) in
    sym of_guest ∙ ap (λ k. slice_range bytes k (k + n)) same_place ∙ of_real

-- a read in the area
pub area_range : (framed area : List ℕ) (base start n : ℕ) → length framed ≡ base → base ≤ start
    → start + n ≤ base + length area
    → slice_range area (start - base) (start - base + n) ≡ slice_range (framed ++ area) start (start + n)
area_range framed area base start n long low high =
    let all : length (framed ++ area) ≡ base + length area =
    length-append framed area ∙ ap (λ k. k + length area) long in
    ext_get_or 0 (slice_range area (start - base) (start - base + n)) (slice_range (framed ++ area) start (start + n))
    (length-slice_range_le area (start - base) (start - base + n) (omega arith) (omega arith) ∙ sym
    (length-slice_range_le (framed ++ area) start (start + n) (omega arith) (omega arith) ∙ omega arith))
    (λ k h. let lt : k < n = (let l = length-slice_range_le area (start - base) (start - base + n) (omega arith)
    (omega arith) in omega arith) in
    get_or-slice_range area (start - base) (start - base + n) k (omega arith)
    ∙ sym (get_or-slice_range (framed ++ area) start (start + n) k (omega arith) ∙ get_or-append_right framed area base
    (start + k) 0 long (omega arith) ∙ ap (λ j. get_or area j 0) (omega arith)))

-- a write within one page is a write within its frame
pub framed_put : (storage xs : List ℕ) (owners : List (Option UserPage)) (user start page : ℕ)
    → page_at owners user (length storage) (start / 4096) ≡ Some page → start / 4096 < length owners
    → start % 4096 + length xs ≤ 4096
    → framed_bytes (put storage (page * 4096 + start % 4096) xs) owners user
    ≡ put (framed_bytes storage owners user) start xs
framed_put storage xs owners user start page at frame one =
    let is = page_at_is owners user (length storage) (start / 4096) page at in
    let whole : page * 4096 + 4096 ≤ length storage = is.whole in
    let g = page * 4096 + start % 4096 in
    let after = put storage g xs in
    let fits : g + length xs ≤ length storage = omega arith in
    let size : length after ≡ length storage = length-put storage xs g fits in
    let old = framed_bytes storage owners user in
    let long : length old ≡ 4096 * length owners = length-framed storage owners user in
    let room : start + length xs ≤ length old = omega arith in
    ext_get_or 0 (framed_bytes after owners user) (put old start xs)
    (length-framed after owners user ∙ sym (length-put old xs start room ∙ long))
    (λ a h. let lt : a < 4096 * length owners = (let l = length-framed after owners user in omega arith) in
    get_framed after owners user a lt
    ∙ ap (λ s. byte_of after (page_at owners user s (a / 4096)) (a % 4096)) size
    ∙ elim (dec_eq (a / 4096) (start / 4096)) [
      | yes e ↦ (let here : page_at owners user (length storage) (a / 4096)
          ≡ Some page = ap (page_at owners user (length storage)) e ∙ at in
          let was : get_or old a 0 ≡ get_or storage (page * 4096 + a % 4096) 0 =
          get_framed storage owners user a lt ∙ ap (λ o. byte_of storage o (a % 4096)) here in
          ap (λ o. byte_of after o (a % 4096)) here ∙ elim (dec_lt a start) [
            | yes b ↦ put_before storage xs g (page * 4096 + a % 4096) fits (omega arith) ∙ sym was ∙ sym
                (put_before old xs start a room b)
            | no b ↦ elim (dec_lt a (start + length xs)) [
              | yes c ↦ put_within storage xs g (page * 4096 + a % 4096) fits (omega arith) (omega arith) ∙ ap
                  (λ k. get_or xs k 0) (omega arith) ∙ sym (put_within old xs start a room (omega arith) c)
              | no c ↦ put_after storage xs g (page * 4096 + a % 4096) fits (omega arith) ∙ sym was ∙ sym
                  (put_after old xs start a room (omega arith))
            ]
          ])
      | no e ↦ (let was : get_or old a 0
          ≡ byte_of storage (page_at owners user (length storage) (a / 4096)) (a % 4096) =
          get_framed storage owners user a lt in
          other a e (page_at owners user (length storage) (a / 4096)) refl fits is.there ∙ sym was ∙ elim
          (dec_lt a start) [
            | yes b ↦ sym (put_before old xs start a room b)
            | no b ↦ sym (put_after old xs start a room (omega arith))
          ])
    ])
  where
    other : (a : ℕ) → a / 4096 ≢ start / 4096 → (o : Option ℕ) → page_at owners user (length storage) (a / 4096) ≡ o
        → page * 4096 + start % 4096 + length xs ≤ length storage → frame_of owners user page ≡ Some (start / 4096)
        → byte_of (put storage (page * 4096 + start % 4096) xs) o (a % 4096) ≡ byte_of storage o (a % 4096)
    other a ne None e fits there = refl
    other a ne (Some q) e fits there =
        let at_q = page_at_is owners user (length storage) (a / 4096) q e in
        elim (dec_eq q page) [
          | yes same ↦ (let both_at : Some (a / 4096)
              ≡ Some (start / 4096) = sym at_q.there ∙ ap (frame_of owners user) same ∙ there in
              let f : a / 4096 ≡ start / 4096 = cc in absurd (ne f))
          | no differ ↦ elim (dec_lt q page) [
            | yes b ↦ put_before storage xs (page * 4096 + start % 4096) (q * 4096 + a % 4096) fits (omega arith)
            | no b ↦ put_after storage xs (page * 4096 + start % 4096) (q * 4096 + a % 4096) fits (omega arith)
          ]
        ]

-- a write in the first of two lists, or in the second
pub put_first : (first second xs : List ℕ) (start : ℕ) → start + length xs ≤ length first
    → put (first ++ second) start xs ≡ put first start xs ++ second
put_first first second xs start fits =
    let all : length (first ++ second) ≡ length first + length second = length-append first second in
    let size : length (put first start xs) ≡ length first = length-put first xs start fits in
    let room : start + length xs ≤ length (first ++ second) = omega arith in
    ext_get_or 0 (put (first ++ second) start xs) (put first start xs ++ second)
    (length-put (first ++ second) xs start room ∙ all ∙ sym
    (length-append (put first start xs) second ∙ ap (λ k. k + length second) size))
    (λ a h. elim (dec_lt a (length first)) [
      | yes l ↦ (let low : get_or (first ++ second) a 0 ≡ get_or first a 0 = get_or_append_left first second 0 a l in
          let new : get_or (put first start xs ++ second) a 0 ≡ get_or (put first start xs) a 0 =
          get_or_append_left (put first start xs) second 0 a (omega arith) in
          elim (dec_lt a start) [
            | yes b ↦ put_before (first ++ second) xs start a room b ∙ low ∙ sym (put_before first xs start a fits b) ∙
                sym new
            | no b ↦ elim (dec_lt a (start + length xs)) [
              | yes c ↦ put_within (first ++ second) xs start a room (omega arith) c ∙ sym
                  (put_within first xs start a fits (omega arith) c) ∙ sym new
              | no c ↦ put_after (first ++ second) xs start a room (omega arith) ∙ low ∙ sym
                  (put_after first xs start a fits (omega arith)) ∙ sym new
            ]
          ])
      | no l ↦ put_after (first ++ second) xs start a room (omega arith) ∙ get_or-append_right first second
          (length first) a 0 refl (omega arith)
          ∙ sym (get_or-append_right (put first start xs) second (length first) a 0 size (omega arith))
    ])

-- Bytes that are put past a first part are put into the second.
pub put_second : (first second xs : List ℕ) (base start : ℕ) → length first ≡ base → base ≤ start
    → start + length xs ≤ base + length second → put (first ++ second) start xs ≡ first ++ put second (start - base) xs
put_second first second xs base start long low high =
    let all : length (first ++ second) ≡ base + length second =
    length-append first second ∙ ap (λ k. k + length second) long in
    let fits : start - base + length xs ≤ length second = omega arith in
    let size : length (put second (start - base) xs) ≡ length second = length-put second xs (start - base) fits in
    let room : start + length xs ≤ length (first ++ second) = omega arith in
    ext_get_or 0 (put (first ++ second) start xs) (first ++ put second (start - base) xs)
    (length-put (first ++ second) xs start room ∙ length-append first second ∙ sym
    (length-append first (put second (start - base) xs) ∙ ap (λ k. length first + k) size))
    (λ a h. elim (dec_lt a base) [
      | yes l ↦ put_before (first ++ second) xs start a room (omega arith) ∙ get_or_append_left first second 0 a
          (omega arith) ∙ sym (get_or_append_left first (put second (start - base) xs) 0 a (omega arith))
      | no l ↦ (let old : get_or (first ++ second) a 0
          ≡ get_or second (a - base) 0 = get_or-append_right first second base a 0 long (omega arith) in
          let new : get_or (first ++ put second (start - base) xs) a 0
          ≡ get_or (put second (start - base) xs) (a - base) 0 =
          get_or-append_right first (put second (start - base) xs) base a 0 long (omega arith) in
          elim (dec_lt a start) [
            | yes b ↦ put_before (first ++ second) xs start a room b ∙ old ∙ sym
                (put_before second xs (start - base) (a - base) fits (omega arith)) ∙ sym new
            | no b ↦ elim (dec_lt a (start + length xs)) [
              | yes c ↦ put_within (first ++ second) xs start a room (omega arith) c ∙ ap (λ k. get_or xs k 0)
                  (omega arith) ∙ sym (put_within second xs (start - base) (a - base) fits (omega arith) (omega arith))
                  ∙ sym new
              | no c ↦ put_after (first ++ second) xs start a room (omega arith) ∙ old ∙ sym
                  (put_after second xs (start - base) (a - base) fits (omega arith)) ∙ sym new
            ]
          ])
    ])

-- the keys of the user's pages, and of the area
pub key_framed : (storage keys : List ℕ) (owners : List (Option UserPage)) (user area block : ℕ)
    → block < 2 * length owners
    → get_or (real_keys storage keys owners user area) block 0
    ≡ key_of keys (page_at owners user (length storage) (block / 2)) (block % 2)
unfolding real_keys
key_framed storage keys owners user area block lt =
    let f : ℕ → ℕ = λ b. key_of keys (page_at owners user (length storage) (b / 2)) (b % 2) in
    let framed : List ℕ = map f (range_with_len 0 (2 * length owners)) in
    let none : List ℕ = replicate ((area + 2047) / 2048) 0 in
    let long : length framed ≡ 2 * length owners = length-map-range_with_len f 0 (2 * length owners) in
    get_or_append_left framed none 0 block (omega (arith, long, lt)) ∙ get_or-map-range_with_len f 0 (2 * length owners)
    block block 0 lt (zero-add block)

zeros : (n k : ℕ) → get_or {A = ℕ} (replicate n 0) k 0 ≡ 0
zeros zero k = refl
zeros (suc n) zero = refl
zeros (suc n) (suc k) = zeros n k

-- The blocks of the area of copies have key zero.
pub key_area : (storage keys : List ℕ) (owners : List (Option UserPage)) (user area block : ℕ)
    → 2 * length owners ≤ block → get_or (real_keys storage keys owners user area) block 0 ≡ 0
unfolding real_keys
key_area storage keys owners user area block le =
    let f : ℕ → ℕ = λ b. key_of keys (page_at owners user (length storage) (b / 2)) (b % 2) in
    let framed : List ℕ = map f (range_with_len 0 (2 * length owners)) in
    let none : List ℕ = replicate ((area + 2047) / 2048) 0 in
    let long : length framed ≡ 2 * length owners = length-map-range_with_len f 0 (2 * length owners) in
    get_or-append_right framed none (2 * length owners) block 0 long le ∙ zeros ((area + 2047) / 2048)
    (block - 2 * length owners)

-- all of a write in one frame
pub real_put : (storage after area xs : List ℕ) (owners owners' : List (Option UserPage)) (user user' start page : ℕ)
    → page_at owners user (length storage) (start / 4096) ≡ Some page → start / 4096 < length owners
    → start % 4096 + length xs ≤ 4096
    → after ≡ put storage (page * 4096 + start % 4096) xs → owners' ≡ owners → user' ≡ user
    → real_bytes after owners' user' area ≡ put (real_bytes storage owners user area) start xs
real_put storage after area xs owners owners' user user' start page at frame one bytes same_owners same_user =
    let long : length (framed_bytes storage owners user) ≡ 4096 * length owners = length-framed storage owners user in
    ap (λ o. real_bytes after o user' area) same_owners
    ∙ ap (λ u. real_bytes after owners u area) same_user
    ∙ ap (λ s. real_bytes s owners user area) bytes
    ∙ ap (λ l. l ++ area) (framed_put storage xs owners user start page at frame one)
    ∙ sym (put_first (framed_bytes storage owners user) area xs start (omega (arith, long, frame, one)))

-- the address of a byte whose page is in a frame
pub real_is : (owners : List (Option UserPage)) (user size a f : ℕ) → frame_of owners user (a / 4096) ≡ Some f
    → a / 4096 * 4096 + 4096 ≤ size → real_of owners user size a ≡ Some (f * 4096 + a % 4096)
real_is owners user size a f e whole = let fits : nat_le (a / 4096 * 4096 + 4096) size ≡ true =
    grind (arith, nat_tests) in rw (fits, e) refl

-- a write in one frame leaves the bytes of pages in no frame
pub away_put : (storage xs : List ℕ) (owners : List (Option UserPage)) (user start page : ℕ)
    → page_at owners user (length storage) (start / 4096) ≡ Some page → start % 4096 + length xs ≤ 4096
    → (a : ℕ) → real_of owners user (length storage) a ≡ None
    → get_or (put storage (page * 4096 + start % 4096) xs) a 0 ≡ get_or storage a 0
away_put storage xs owners user start page at one a none =
    let is = page_at_is owners user (length storage) (start / 4096) page at in
    let whole : page * 4096 + 4096 ≤ length storage = is.whole in
    let g = page * 4096 + start % 4096 in
    let fits : g + length xs ≤ length storage = omega arith in
    elim (dec_lt a g) [
      | yes b ↦ put_before storage xs g a fits b
      | no b ↦ elim (dec_lt a (g + length xs)) [
        | yes c ↦ (let same : a / 4096 ≡ page = omega arith in
            let found : frame_of owners user (a / 4096) ≡ Some (start / 4096) =
            ap (frame_of owners user) same ∙ is.there in
            let real = real_is owners user (length storage) a (start / 4096) found (omega arith) in
            let no : None ≡ Some (start / 4096 * 4096 + a % 4096) = sym none ∙ real in cc)
        | no c ↦ put_after storage xs g a fits (omega arith)
      ]
    ]
