-- Lemmas of specs/Noted.
use Rattle.std.specs.Prelude.{ℕ, zero, suc, ◌+◌, ◌-◌, ◌*◌, ◌/◌, ◌%◌, ◌^◌, ◌<◌, ◌≤◌, ◌≡◌, ◌⊎◌, Bool, true, false, List}
use Rattle.std.specs.Prelude.{[], ◌∷◌, ◌++◌, Contains, slice_index, OnOk, Option, None, Some, Result, Ok, Err}
use Rattle.std.proofs.Common.{sym, subst, ◌∙◌, ap, arith, inl, inr, append_assoc}
use Rattle.std.proofs.lemmas.List.{append-nil}
use Rattle.std.proofs.lemmas.List.Elements.{Contains-append_cases, Contains-append_left, Contains-append_right}
use Rattle.std.proofs.lemmas.List.Elements.{Contains-push}
use Rattle.s370_store.specs.declared.Range.{Range}
use Rattle.s370_channel.specs.Guest.{area_block, guest_text, later}
use Rattle.s370_walk.specs.declared.parts.Ccw.{Ccw}
use Rattle.s370_walk.specs.Blocks.{block_number}
use Rattle.s370_store.specs.Memory.{Memory}
use Rattle.s370_walk.specs.Walk.{is_indirect, skips}
use Rattle.cp_needs.specs.Areas.{IsAreaByte, IsBegun, IsListByte, byte_place}
use Rattle.s370_walk.specs.Tracks.{has_area}
use Rattle.cp_needs.specs.Needs.{IsTextByte}
use Rattle.cp_needs.specs.Noted.{AreMarked, AreStored, IsEntryByte, IsFilled, IsFilledAt, IsFilledBy, IsInPiece}
use Rattle.cp_needs.specs.Noted.{IsInSome, IsPieceByte, IsTextOf}
use Rattle.cp_needs.proofs.Blocks.{begun_place, bytes_on, none_on, none_some, on_word, past_list, place_after}
use Rattle.cp_needs.proofs.Blocks.{some_same, within_block}
use Rattle.s370_store.specs.Access.{IsAbsent}
use Rattle.cp_needs.specs.Words.{IsPresent}
use Rattle.std.proofs.lemmas.Bool.{true≢false}
use Rattle.cp_needs.proofs.Finding.{word_same}

-- ---- fullwords

none_in : {X : Type 0} (x : X) → Contains [] x → ⊥
none_in x (i, lt, is) = omega (arith, lt)

one_in : {X : Type 0} (x y : X) → Contains (x ∷ []) y → x ≡ y
one_in x y (zero, lt, is) = is
one_in x y (suc i, lt, is) = (let no : ⊥ = omega (arith, lt) in absurd no)

pub marks_none : (P : ℕ → Type 0) (xs : List ℕ) → ((a : ℕ) → P a → ⊥) → AreMarked P xs xs
marks_none P xs none = record {
  rest = [];
  is = sym (append-nil xs);
  marked = λ a p. absurd (none a p);
  only = λ n inside. absurd (none_in n inside);
}

pub marks_one : (P : ℕ → Type 0) (n : ℕ) (xs ys : List ℕ) → ys ≡ xs ++ n ∷ [] → ((a : ℕ) → P a → a / 4 ≡ n)
    → ((k : ℕ) → k < 4 → P (4 * n + k)) → AreMarked P xs ys
marks_one P n xs ys is at all =
    record {
      rest = n ∷ [];
      is = is;
      marked = λ a p. rw (at a p) (Contains-push [] n);
      only = λ other inside k lt.
          (let same : n ≡ other = one_in n other inside in subst (λ x. P (4 * x + k)) same (all k lt));
    }

pub marks_joined : (P Q R : ℕ → Type 0) (xs ys zs : List ℕ) → AreMarked P xs ys → AreMarked Q ys zs
    → ((a : ℕ) → R a → P a ⊎ Q a) → ((a : ℕ) → P a → R a) → ((a : ℕ) → Q a → R a) → AreMarked R xs zs
marks_joined P Q R xs ys zs p q split left right =
    record {
      rest = p.rest ++ q.rest;
      is = q.is ∙ ap (λ l. l ++ q.rest) p.is ∙ append_assoc xs p.rest q.rest;
      marked = λ a r. by_side a (split a r);
      only = λ n inside k lt. by_part n k lt (Contains-append_cases p.rest q.rest n inside);
    }
  where
    by_side : (a : ℕ) → P a ⊎ Q a → Contains (p.rest ++ q.rest) (a / 4)
    by_side a (inl one) = Contains-append_left p.rest q.rest (a / 4) (p.marked a one)
    by_side a (inr one) = Contains-append_right p.rest q.rest (a / 4) (q.marked a one)

    by_part : (n k : ℕ) → k < 4 → Contains p.rest n ⊎ Contains q.rest n → R (4 * n + k)
    by_part n k lt (inl there) = left (4 * n + k) (p.only n there k lt)
    by_part n k lt (inr there) = right (4 * n + k) (q.only n there k lt)

pub marks_same : (P R : ℕ → Type 0) (xs ys : List ℕ) → AreMarked P xs ys → ((a : ℕ) → R a → P a) → ((a : ℕ) → P a → R a)
    → AreMarked R xs ys
marks_same P R xs ys p there back =
    record {
      rest = p.rest;
      is = p.is;
      marked = λ a r. p.marked a (there a r);
      only = λ n inside k lt. back (4 * n + k) (p.only n inside k lt);
    }

-- ---- pieces

pub stores_none : (P : ℕ → Type 0) (xs : List Range) → ((a : ℕ) → P a → ⊥) → AreStored P xs xs
stores_none P xs none = record {
  rest = [];
  is = sym (append-nil xs);
  stored = λ a p. absurd (none a p);
  only = λ a inside. absurd (none_in inside.0 inside.1);
}

pub stores_one : (P : ℕ → Type 0) (piece : Range) (xs ys : List Range) → ys ≡ xs ++ piece ∷ []
    → ((a : ℕ) → P a → IsInPiece piece a) → ((a : ℕ) → IsInPiece piece a → P a) → AreStored P xs ys
stores_one P piece xs ys is there back =
    record {
      rest = piece ∷ [];
      is = is;
      stored = λ a p. (piece, Contains-push [] piece, there a p);
      only = λ a inside. (let same : piece
          ≡ inside.0 = one_in piece inside.0 inside.1 in back a
          (subst (λ (x : Range). IsInPiece x a) (sym same) inside.2));
    }

pub stores_joined : (P Q R : ℕ → Type 0) (xs ys zs : List Range) → AreStored P xs ys → AreStored Q ys zs
    → ((a : ℕ) → R a → P a ⊎ Q a) → ((a : ℕ) → P a → R a) → ((a : ℕ) → Q a → R a) → AreStored R xs zs
stores_joined P Q R xs ys zs p q split left right =
    record {
      rest = p.rest ++ q.rest;
      is = q.is ∙ ap (λ l. l ++ q.rest) p.is ∙ append_assoc xs p.rest q.rest;
      stored = λ a r. by_side a (split a r);
      only = λ a inside. by_part a inside.0 inside.2 (Contains-append_cases p.rest q.rest inside.0 inside.1);
    }
  where
    by_side : (a : ℕ) → P a ⊎ Q a → IsInSome (p.rest ++ q.rest) a
    by_side a (inl one) = (let s = p.stored a one in (s.0, Contains-append_left p.rest q.rest s.0 s.1, s.2))
    by_side a (inr one) = (let s = q.stored a one in (s.0, Contains-append_right p.rest q.rest s.0 s.1, s.2))

    by_part : (a : ℕ) (piece : Range) → IsInPiece piece a → Contains p.rest piece ⊎ Contains q.rest piece → R a
    by_part a piece at (inl there) = left a (p.only a (piece, there, at))
    by_part a piece at (inr there) = right a (q.only a (piece, there, at))

pub stores_same : (P R : ℕ → Type 0) (xs ys : List Range) → AreStored P xs ys → ((a : ℕ) → R a → P a)
    → ((a : ℕ) → P a → R a) → AreStored R xs ys
stores_same P R xs ys p there back =
    record {
      rest = p.rest;
      is = p.is;
      stored = λ a r. p.stored a (there a r);
      only = λ a inside. back a (p.only a inside);
    }

-- ---- one word of a list

not_both : (b : Bool) → b ≡ true → b ≡ false → ⊥
not_both b on off = cc

-- The bytes of one more list entry are marked.
pub marks_entry : (w : Ccw) (number at : ℕ) (xs ys : List ℕ) → is_indirect w ≡ true → has_area w ≡ true
    → at ≡ later w.address (4 * number) → ys ≡ xs ++ at / 4 ∷ [] → AreMarked (IsEntryByte w number) xs ys
marks_entry w number at xs ys listed has is push =
    let even : at % 4 ≡ 0 = by_list w.address number at (on_word w has listed) is in
    marks_one (IsEntryByte w number) (at / 4) xs ys push
    (λ a entry. (let lt = entry.2 in let from = entry.3 in omega (arith, lt, from, is, even)))
    (λ k lt. (listed, k, lt, omega (arith, is, even)))
  where
    by_list : (address number at : ℕ) → address % 4 ≡ 0 → at ≡ later address (4 * number) → at % 4 ≡ 0
    by_list address number at even is = omega (arith, even, is)

pub marks_no_entry : (w : Ccw) (number : ℕ) (xs : List ℕ) → is_indirect w ≡ false
    → AreMarked (IsEntryByte w number) xs xs
marks_no_entry w number xs plain =
    marks_none (IsEntryByte w number) xs (λ a entry. not_both (is_indirect w) entry.0 plain)

-- ---- the list and the area of a word, block by block

-- a byte of its list that says where a byte before byte n lies
abbrev pub IsListBelow : Memory → Ccw → ℕ → ℕ → Type 0
IsListBelow m w n a = (b : IsListByte m w a) × (b.byte < n)

-- a byte of its area before byte n that an input could fill
abbrev pub IsFilledBelow : Memory → Ccw → ℕ → ℕ → Type 0
IsFilledBelow m w n a = (skips w ≡ false) × (b : IsAreaByte m w a) × (b.byte < n)

pub none_below : (m : Memory) (w : Ccw) (a : ℕ) → IsListBelow m w 0 a → ⊥
none_below m w a (b, lt) = omega (arith, lt)

pub none_filled : (m : Memory) (w : Ccw) (a : ℕ) → IsFilledBelow m w 0 a → ⊥
none_filled m w a (s, b, lt) = omega (arith, lt)

-- the word of the list that says where byte n lies, which begins a block
entry_below : (m : Memory) (w : Ccw) (n most a : ℕ) → has_area w ≡ true → n < w.count → n < most
    → IsBegun (area_block m w) n → IsEntryByte w (block_number n) a → IsListBelow m w most a
entry_below m w n most a has counted lt begun (listed, k, within, at) = (
  record {
    byte = n;
    has = has;
    counted = counted;
    begun = begun;
    listed = listed;
    part = k;
    within = within;
    at = at;
  },
  lt,
)

more_below : (m : Memory) (w : Ccw) (n most a : ℕ) → n ≤ most → IsListBelow m w n a → IsListBelow m w most a
more_below m w n most a le (b, lt) = (b, omega (arith, lt, le))

at_entry : (m : Memory) (w : Ccw) (n a : ℕ) (b : IsListByte m w a) → b.byte ≡ n → IsEntryByte w (block_number n) a
at_entry m w n a b same = (b.listed, b.part, b.within, rw (← same) b.at)

-- with one block more
pub list_on : (m : Memory) (w : Ccw) (n start len : ℕ) (xs ys zs : List ℕ) → has_area w ≡ true → n < w.count → 0 < len
    → IsBegun (area_block m w) n → area_block m w (block_number n) ≡ Some start → start < 2 ^ 32
    → start % 2048 + len ≤ 2048
    → AreMarked (IsListBelow m w n) xs ys → AreMarked (IsEntryByte w (block_number n)) ys zs
    → AreMarked (IsListBelow m w (n + len)) xs zs
list_on m w n start len xs ys zs has counted some begun said low short old new =
    marks_joined (IsListBelow m w n) (IsEntryByte w (block_number n)) (IsListBelow m w (n + len)) xs ys zs old new
    (λ a r. by_place a r (place_after r.0.byte n)) (λ a. more_below m w n (n + len) a (omega arith))
    (λ a. entry_below m w n (n + len) a has counted (omega (arith, some)) begun)
  where
    list : ℕ → Option ℕ
    list = area_block m w

    first : byte_place list n ≡ Some start
    first = begun_place list n begun ∙ said

    by_place : (a : ℕ) (r : IsListBelow m w (n + len) a) → (r.0.byte < n) ⊎ ((i : ℕ) × (r.0.byte ≡ n + i))
        → IsListBelow m w n a ⊎ IsEntryByte w (block_number n) a
    by_place a (b, lt) (inl before) = inl (b, before)
    by_place a (b, lt) (inr (zero, is)) = inr (at_entry m w n a b (omega (arith, is)))
    by_place a (b, lt) (inr (suc i, is)) =
        absurd (within_block list n start i first (omega (arith, lt, is, short)) low (subst (IsBegun list) is b.begun))

-- where the list says nothing more
pub list_past : (m : Memory) (w : Ccw) (n : ℕ) (xs ys zs : List ℕ) → has_area w ≡ true → n < w.count
    → IsBegun (area_block m w) n → area_block m w (block_number n) ≡ None
    → AreMarked (IsListBelow m w n) xs ys → AreMarked (IsEntryByte w (block_number n)) ys zs
    → AreMarked (IsListByte m w) xs zs
list_past m w n xs ys zs has counted begun said old new =
    marks_joined (IsListBelow m w n) (IsEntryByte w (block_number n)) (IsListByte m w) xs ys zs old new
    (λ a b. by_place a b (place_after b.byte n)) (λ a below. below.0)
    (λ a entry. (entry_below m w n w.count a has counted counted begun entry).0)
  where
    list : ℕ → Option ℕ
    list = area_block m w

    none : byte_place list n ≡ None
    none = begun_place list n begun ∙ said

    by_place : (a : ℕ) (b : IsListByte m w a) → (b.byte < n) ⊎ ((i : ℕ) × (b.byte ≡ n + i))
        → IsListBelow m w n a ⊎ IsEntryByte w (block_number n) a
    by_place a b (inl before) = inl (b, before)
    by_place a b (inr (zero, is)) = inr (at_entry m w n a b (omega (arith, is)))
    by_place a b (inr (suc i, is)) = absurd (past_list list n i none (subst (IsBegun list) is b.begun))

-- where all of its bytes are done
pub list_done : (m : Memory) (w : Ccw) (n : ℕ) (xs ys : List ℕ) → w.count ≤ n → AreMarked (IsListBelow m w n) xs ys
    → AreMarked (IsListByte m w) xs ys
list_done m w n xs ys all old =
    marks_same (IsListBelow m w n) (IsListByte m w) xs ys old
    (λ a b. (b, (let counted = b.counted in omega (arith, counted, all)))) (λ a below. below.0)

-- One more part of an area is noted as stored.
pub filled_on : (m : Memory) (w : Ccw) (n : ℕ) (piece : Range) (xs ys zs : List Range) → has_area w ≡ true
    → n + piece.count ≤ w.count → IsBegun (area_block m w) n → area_block m w (block_number n) ≡ Some piece.start
    → piece.start < 2 ^ 32 → piece.start % 2048 + piece.count ≤ 2048
    → AreStored (IsFilledBelow m w n) xs ys → AreStored (IsPieceByte w piece) ys zs
    → AreStored (IsFilledBelow m w (n + piece.count)) xs zs
filled_on m w n piece xs ys zs has counted begun said low short old new =
    stores_joined (IsFilledBelow m w n) (IsPieceByte w piece) (IsFilledBelow m w (n + piece.count)) xs ys zs old new
    (λ a r. by_place a r (place_after r.1.byte n)) (λ a r. (r.0, r.1, (let lt = r.2 in omega (arith, lt))))
    (λ a r. (let x = back a r.1 in (r.0, x.0, x.1)))
  where
    list : ℕ → Option ℕ
    list = area_block m w

    first : byte_place list n ≡ Some piece.start
    first = begun_place list n begun ∙ said

    by_place : (a : ℕ) (r : IsFilledBelow m w (n + piece.count) a) → (r.1.byte < n) ⊎ ((i : ℕ) × (r.1.byte ≡ n + i))
        → IsFilledBelow m w n a ⊎ IsPieceByte w piece a
    by_place a (s, b, lt) (inl before) = inl (s, b, before)
    by_place a (s, b, lt) (inr (i, is)) =
        let there : byte_place list (n + i) ≡ Some (piece.start + i) =
        bytes_on list n piece.start i first (omega (arith, lt, is, short)) low in
        let same : a ≡ piece.start + i = some_same a (piece.start + i) (sym b.at ∙ ap (byte_place list) is ∙ there) in
        inr (s, (omega (arith, same), omega (arith, same, lt, is)))

    back : (a : ℕ) → IsInPiece piece a → (b : IsAreaByte m w a) × (b.byte < n + piece.count)
    back a (from, to) =
        let offset : a ≡ piece.start + (a - piece.start) = omega (arith, from) in
        let there : byte_place list (n + (a - piece.start)) ≡ Some (piece.start + (a - piece.start)) =
        bytes_on list n piece.start (a - piece.start) first (omega (arith, to, from, short)) low in (
          record {
            byte = n + (a - piece.start);
            has = has;
            counted = omega (arith, to, from, counted);
            at = there ∙ ap Some (sym offset);
          },
          omega (arith, to, from),
        )

-- An area that ends at a fault is noted up to it.
pub filled_past : (m : Memory) (w : Ccw) (n : ℕ) (xs ys : List Range) → IsBegun (area_block m w) n
    → area_block m w (block_number n) ≡ None → AreStored (IsFilledBelow m w n) xs ys → AreStored (IsFilled m w) xs ys
filled_past m w n xs ys begun said old =
    stores_same (IsFilledBelow m w n) (IsFilled m w) xs ys old (λ a r. by_place a r (place_after r.1.byte n))
    (λ a below. (below.0, below.1))
  where
    list : ℕ → Option ℕ
    list = area_block m w

    none : byte_place list n ≡ None
    none = begun_place list n begun ∙ said

    by_place : (a : ℕ) (r : IsFilled m w a) → (r.1.byte < n) ⊎ ((i : ℕ) × (r.1.byte ≡ n + i)) → IsFilledBelow m w n a
    by_place a (s, b) (inl before) = (s, b, before)
    by_place a (s, b) (inr (i, is)) =
        absurd (none_some a (byte_place list (n + i)) (none_on list n i none) (ap (byte_place list) (sym is) ∙ b.at))

-- An area is noted as a whole after its last byte.
pub filled_done : (m : Memory) (w : Ccw) (n : ℕ) (xs ys : List Range) → w.count ≤ n
    → AreStored (IsFilledBelow m w n) xs ys → AreStored (IsFilled m w) xs ys
filled_done m w n xs ys all old =
    stores_same (IsFilledBelow m w n) (IsFilled m w) xs ys old
    (λ a r. (r.0, r.1, (let counted = r.1.counted in omega (arith, counted, all)))) (λ a below. (below.0, below.1))

-- ---- a word

abbrev pub IsOwnByte : ℕ → ℕ → Type 0
IsOwnByte address a = (k : ℕ) × (k < 8) × (a ≡ address + k)

-- its two fullwords
pub own_marked : (address : ℕ) (xs ys zs : List ℕ) → address % 8 ≡ 0 → ys ≡ xs ++ address / 4 ∷ []
    → zs ≡ ys ++ (address / 4 + 1) ∷ [] → AreMarked (IsOwnByte address) xs zs
own_marked address xs ys zs even first second =
    marks_joined (IsHalf 0) (IsHalf 4) (IsOwnByte address) xs ys zs
    (marks_one (IsHalf 0) (address / 4) xs ys first
    (λ a half. (let lt = half.1 in let at = half.2 in omega (arith, lt, at, even)))
    (λ k lt. (k, lt, omega (arith, even))))
    (marks_one (IsHalf 4) (address / 4 + 1) ys zs second
    (λ a half. (let lt = half.1 in let at = half.2 in omega (arith, lt, at, even)))
    (λ k lt. (k, lt, omega (arith, even))))
    by_half (λ a half. (half.0, (let lt = half.1 in omega (arith, lt)), (let at = half.2 in omega (arith, at))))
    (λ a half. (half.0 + 4, (let lt = half.1 in omega (arith, lt)), (let at = half.2 in omega (arith, at))))
  where
    IsHalf : ℕ → ℕ → Type 0
    IsHalf from a = (k : ℕ) × (k < 4) × (a ≡ address + from + k)

    low_or : (k : ℕ) → (k < 4) ⊎ (4 ≤ k)
    low_or k = grind arith

    by_half : (a : ℕ) → IsOwnByte address a → IsHalf 0 a ⊎ IsHalf 4 a
    by_half a (k, lt, at) = elim (low_or k) [
      | inl low ↦ inl (k, low, omega (arith, at))
      | inr high ↦ inr
          (k - 4, omega (arith, lt, high), omega (arith, at, high))
    ]

-- with its list
pub text_marked : (m : Memory) (address : ℕ) (w : Ccw) (xs ys zs : List ℕ) → guest_text m address ≡ Some w
    → AreMarked (IsOwnByte address) xs ys → AreMarked (IsListByte m w) ys zs → AreMarked (IsTextByte m address) xs zs
text_marked m address w xs ys zs text own list =
    marks_joined (IsOwnByte address) (IsListByte m w) (IsTextByte m address) xs ys zs own list
    (λ a byte. by_side a byte) (λ a byte. inl byte) (λ a byte. inr (w, text, byte))
  where
    by_side : (a : ℕ) → IsTextByte m address a → IsOwnByte address a ⊎ IsListByte m w a
    by_side a (inl byte) = inl byte
    by_side a (inr (v, found, byte)) =
        inr (subst (λ x. IsListByte m x a) (word_same (guest_text m address) v w found text) byte)

none_word : (o : Option Ccw) (w : Ccw) → o ≡ None → o ≡ Some w → ⊥
none_word o w e f = cc

-- Where no word is, its own bytes alone are marked.
pub text_alone : (m : Memory) (address : ℕ) (xs ys : List ℕ) → guest_text m address ≡ None
    → AreMarked (IsOwnByte address) xs ys → AreMarked (IsTextByte m address) xs ys
text_alone m address xs ys none own =
    marks_same (IsOwnByte address) (IsTextByte m address) xs ys own (λ a byte. by_side a byte) (λ a byte. inl byte)
  where
    by_side : (a : ℕ) → IsTextByte m address a → IsOwnByte address a
    by_side a (inl byte) = byte
    by_side a (inr (v, found, byte)) = absurd (none_word (guest_text m address) v none found)

-- The areas of a word that reads are noted at its address.
pub filled_word : (m : Memory) (address : ℕ) (w : Ccw) (xs ys : List Range) → guest_text m address ≡ Some w
    → AreStored (IsFilled m w) xs ys → AreStored (IsFilledAt m address) xs ys
filled_word m address w xs ys text old =
    stores_same (IsFilled m w) (IsFilledAt m address) xs ys old
    (λ a r. subst (λ x. IsFilled m x a) (word_same (guest_text m address) r.0 w r.1 text) r.2)
    (λ a one. (w, text, one))

pub filled_nowhere : (m : Memory) (address : ℕ) (xs : List Range) → guest_text m address ≡ None
    → AreStored (IsFilledAt m address) xs xs
filled_nowhere m address xs none =
    stores_none (IsFilledAt m address) xs (λ a r. none_word (guest_text m address) r.0 none r.1)

-- ---- the words

before_last : (i n : ℕ) → i < n + 1 → (i < n) ⊎ (i ≡ n)
before_last i n lt = grind arith

-- The bytes of one more word are marked.
pub text_on : (m : Memory) (words : List ℕ) (n address : ℕ) (xs ys zs : List ℕ) → address ≡ slice_index words n
    → AreMarked (IsTextOf m words n) xs ys → AreMarked (IsTextByte m address) ys zs
    → AreMarked (IsTextOf m words (n + 1)) xs zs
text_on m words n address xs ys zs at old new =
    marks_joined (IsTextOf m words n) (IsTextByte m address) (IsTextOf m words (n + 1)) xs ys zs old new
    (λ a r. by_place a r (before_last r.0 n r.1)) (λ a r. (r.0, (let lt = r.1 in omega (arith, lt)), r.2))
    (λ a byte. (n, omega arith, rw (← at) byte))
  where
    by_place : (a : ℕ) (r : IsTextOf m words (n + 1) a) → (r.0 < n) ⊎ (r.0 ≡ n)
        → IsTextOf m words n a ⊎ IsTextByte m address a
    by_place a (i, lt, byte) (inl before) = inl (i, before, byte)
    by_place a (i, lt, byte) (inr same) = inr (rw (at, ← same) byte)

-- The areas of one more word are noted.
pub filled_by_on : (m : Memory) (words : List ℕ) (n address : ℕ) (xs ys zs : List Range) → address ≡ slice_index words n
    → AreStored (IsFilledBy m words n) xs ys → AreStored (IsFilledAt m address) ys zs
    → AreStored (IsFilledBy m words (n + 1)) xs zs
filled_by_on m words n address xs ys zs at old new =
    stores_joined (IsFilledBy m words n) (IsFilledAt m address) (IsFilledBy m words (n + 1)) xs ys zs old new
    (λ a r. by_place a r (before_last r.0 n r.1)) (λ a r. (r.0, (let lt = r.1 in omega (arith, lt)), r.2))
    (λ a byte. (n, omega arith, rw (← at) byte))
  where
    by_place : (a : ℕ) (r : IsFilledBy m words (n + 1) a) → (r.0 < n) ⊎ (r.0 ≡ n)
        → IsFilledBy m words n a ⊎ IsFilledAt m address a
    by_place a (i, lt, byte) (inl before) = inl (i, before, byte)
    by_place a (i, lt, byte) (inr same) = inr (rw (at, ← same) byte)

-- ---- pages that are present

-- A page is not both present and absent.
pub not_away : (size : ℕ) (present : ℕ → Bool) (page : ℕ) → IsPresent size present page → IsAbsent size present page → ⊥
not_away size present page here away = true≢false (sym (here away.inside) ∙ away.away)

-- ---- what a call leaves

-- What follows on an answer holds on it.
pub on_ok : {A E P Q : Type 0} (r : Result A E) → OnOk r P → (P → Q) → OnOk r Q
on_ok (Ok a) p f = f p
on_ok (Err e) p f = tt
