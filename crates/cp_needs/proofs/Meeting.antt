-- Pieces of storage and the fullwords that they meet.
use Rattle.std.specs.Prelude.{ℕ, ◌+◌, ◌*◌, ◌/◌, ◌<◌, ◌≤◌, ◌≡◌, ◌⊎◌, List, Contains, IfNone, IfSome, length}
use Rattle.std.specs.Prelude.{slice_index_or, Option, None, Some, Result, Ok, Err}
use Rattle.std.specs.List.Sorted.{IsBinarySearchResult, IsNonDecreasing}
use Rattle.std.specs.Ordering.{nat_cmp}
use Rattle.std.proofs.Common.{sym, subst, ◌∙◌, ap, arith, inl, inr}
use Rattle.std.proofs.lemmas.List.Elements.{Contains-get_or}
use Rattle.std.proofs.lemmas.List.Sorted.{searched}
use Rattle.std.proofs.lemmas.Grind.{get_or_default_zero}
use Rattle.std.proofs.lemmas.Option.{slice_get-get_or}
use Rattle.s370_store.specs.declared.Range.{Range}
use Rattle.cp_needs.specs.Noted.{IsFirstFrom, IsInPiece}

-- ---- the first number from one on

ascends : (numbers : List ℕ) → IsNonDecreasing numbers → (i j : ℕ) → i ≤ j → j < length numbers
    → slice_index_or numbers i 0 ≤ slice_index_or numbers j 0
ascends numbers up i j le lt = up i j 0 le lt

pub found : (numbers : List ℕ) (from i : ℕ) (r : Result ℕ ℕ) → IsNonDecreasing numbers → r ≡ Ok i
    → IsBinarySearchResult (λ y. nat_cmp y from) numbers r → IsFirstFrom numbers from from
found numbers from i r up is position =
    let s = searched numbers from (Ok i) (rw is at position) (ascends numbers up) in
    (subst (Contains numbers) s.1 (Contains-get_or numbers i 0 s.0), omega arith, λ other there le. le)

-- where none is it, those before a place are less, and those from there on greater
abbrev pub IsParted : List ℕ → ℕ → ℕ → Type 0
IsParted numbers from i = ((k : ℕ) → k < i → slice_index_or numbers k 0 < from)
    × ((k : ℕ) → i ≤ k → k < length numbers → from < slice_index_or numbers k 0)

parted : (numbers : List ℕ) (from i : ℕ) (r : Result ℕ ℕ) → IsNonDecreasing numbers → r ≡ Err i
    → IsBinarySearchResult (λ y. nat_cmp y from) numbers r → IsParted numbers from i
parted numbers from i r up is position =
    (let s = searched numbers from (Err i) (rw is at position) (ascends numbers up) in (s.1, s.2))

at_or_past : (k i : ℕ) → (k < i) ⊎ (i ≤ k)
at_or_past k i = grind arith

value_at : (numbers : List ℕ) (k other : ℕ) → k < length numbers → slice_index_or numbers k other ≡ other
    → slice_index_or numbers k 0 ≡ other
value_at numbers k other lt is = sym (get_or_default_zero numbers k other lt) ∙ is

-- the place of one that is no less
late : (numbers : List ℕ) (from i other : ℕ) → IsParted numbers from i → (there : Contains numbers other) → from ≤ other
    → i ≤ there.0
late numbers from i other parts (k, lt, is) le = by_place (at_or_past k i)
  where
    value : slice_index_or numbers k 0 ≡ other
    value = value_at numbers k other lt is

    by_place : (k < i) ⊎ (i ≤ k) → i ≤ k
    by_place (inl before) = (let less = parts.0 k before in omega (arith, less, value, le))
    by_place (inr after) = after

-- A search that finds no equal number is at the first one from there.
pub first_there : (numbers : List ℕ) (from i n : ℕ) (r : Result ℕ ℕ) → IsNonDecreasing numbers → r ≡ Err i
    → IsBinarySearchResult (λ y. nat_cmp y from) numbers r → i < length numbers → n ≡ slice_index_or numbers i 0
    → IsFirstFrom numbers from n
first_there numbers from i n r up is position lt value =
    let parts = parted numbers from i r up is position in
    let more = parts.1 i (omega arith) lt in (
      subst (Contains numbers) (sym value) (Contains-get_or numbers i 0 lt),
      omega (arith, more, value),
      λ other there le. least other there (late numbers from i other parts there le),
    )
  where
    least : (other : ℕ) (there : Contains numbers other) → i ≤ there.0 → n ≤ other
    least other (k, inside, is) after =
        let up_to = up i k 0 after inside in
        let at : slice_index_or numbers k 0 ≡ other = value_at numbers k other inside is in
        omega (arith, up_to, value, at)

pub first_nowhere : (numbers : List ℕ) (from i : ℕ) (r : Result ℕ ℕ) → IsNonDecreasing numbers → r ≡ Err i
    → IsBinarySearchResult (λ y. nat_cmp y from) numbers r → length numbers ≤ i → (other : ℕ) → Contains numbers other
    → from ≤ other → ⊥
first_nowhere numbers from i r up is position past other there le =
    (let after = late numbers from i other (parted numbers from i r up is position) there le in let inside = there.1 in
    omega (arith, after, inside, past))

-- ---- a piece

-- the first fullword from that of a piece on begins before the piece's end
pub touched : (text : List ℕ) (piece : Range) (end past n : ℕ) → past ≤ end → past ≤ piece.start + piece.count
    → piece.start < past → IsFirstFrom text (piece.start / 4) n → n * 4 < past
    → (a : ℕ) × (a < end) × IsInPiece piece a × Contains text (a / 4)
touched text piece end past n to_end to_piece some (there, from, least) before =
    by_start (at_or_past piece.start (n * 4))
  where
    by_start : (piece.start < n * 4) ⊎ (n * 4 ≤ piece.start)
        → (a : ℕ) × (a < end) × IsInPiece piece a × Contains text (a / 4)
    by_start (inl inside) =
        let same : n * 4 / 4 ≡ n = omega arith in
        (n * 4, omega (arith, before, to_end), (omega (arith, inside), omega (arith, before, to_piece)), rw same there)
    by_start (inr at) =
        let same : piece.start / 4 ≡ n = omega (arith, from, at) in
        (piece.start, omega (arith, some, to_end), (omega arith, omega (arith, some, to_piece)), rw same there)

-- A store before the first word of the text touches no word of it.
pub untouched : (text : List ℕ) (piece : Range) (past n a : ℕ) → IsFirstFrom text (piece.start / 4) n → past ≤ n * 4
    → a < past → IsInPiece piece a → Contains text (a / 4) → ⊥
untouched text piece past n a (there, from, least) after lt (low, high) in_text =
    (let le = least (a / 4) in_text (omega (arith, low)) in omega (arith, le, after, lt))

-- A first number that is found is the first.
pub some_first : (text : List ℕ) (from : ℕ) (o : Option ℕ) (n : ℕ) → o ≡ Some n → IfSome o (IsFirstFrom text from)
    → IsFirstFrom text from n
some_first text from o n is first = at (rw is at first)
  where
    at : IsFirstFrom text from n → IsFirstFrom text from n
    at first = first

-- A store after the last word of the text touches no word of it.
pub none_first : (text : List ℕ) (piece : Range) (o : Option ℕ) (a : ℕ) → o ≡ None
    → IfNone o ((other : ℕ) → Contains text other → piece.start / 4 ≤ other → ⊥) → IsInPiece piece a
    → Contains text (a / 4) → ⊥
none_first text piece o a is none (low, high) in_text =
    (let none_at : (other : ℕ) → Contains text other → piece.start / 4 ≤ other
    → ⊥ = rw is at none in none_at (a / 4) in_text (omega (arith, low)))

-- An element of a list does not depend on what is taken past its end.
pub get_or-same : {X : Type 0} (xs : List X) (i : ℕ) (d e : X) → i < length xs
    → slice_index_or xs i d ≡ slice_index_or xs i e
get_or-same xs i d e lt = some_same (sym (slice_get-get_or xs i d lt) ∙ slice_get-get_or xs i e lt)
  where
    some_same : {X : Type 0} {x y : X} → Some x ≡ Some y → x ≡ y
    some_same e = cc

-- none of the pieces before one meets a fullword, and so on
abbrev pub MissAll : List ℕ → List Range → ℕ → ℕ → Type 0
MissAll text pieces end n = (i : ℕ) (piece : Range) (a : ℕ) → i < n → slice_index_or pieces i piece ≡ piece → a < end
    → IsInPiece piece a → Contains text (a / 4) → ⊥

-- One more store that touches no word of the text makes all such.
pub miss_more : (text : List ℕ) (pieces : List Range) (end n : ℕ) (piece : Range)
    → slice_index_or pieces n piece ≡ piece → n < length pieces → MissAll text pieces end n
    → ((a : ℕ) → a < end → IsInPiece piece a → Contains text (a / 4) → ⊥) → MissAll text pieces end (n + 1)
miss_more text pieces end n piece at inside before here i other a lt is below in_piece in_text =
    by_place (last_or i n lt)
  where
    last_or : (i n : ℕ) → i < n + 1 → (i < n) ⊎ (i ≡ n)
    last_or i n lt = grind arith

    by_place : (i < n) ⊎ (i ≡ n) → ⊥
    by_place (inl early) = before i other a early is below in_piece in_text
    by_place (inr same) =
        let at_other : slice_index_or pieces n other ≡ other =
        ap (λ k. slice_index_or pieces k other) (sym same) ∙ is in
        let one : piece ≡ other = sym at ∙ get_or-same pieces n piece other inside ∙ at_other in
        here a below (subst (λ (x : Range). IsInPiece x a) (sym one) in_piece) in_text
