-- Lemmas of the pages on which areas lie.
use Rattle.std.specs.Prelude.{ℕ, zero, suc, ◌+◌, ◌-◌, ◌/◌, ◌%◌, ◌^◌, ◌<◌, ◌≤◌, ◌≡◌, ◌⊎◌, Bool, true, false, List, []}
use Rattle.std.specs.Prelude.{◌∷◌, ◌++◌, Contains, length, slice_index, Option, None, Some, refl}
use Rattle.std.proofs.Common.{sym, subst, ◌∙◌, ap, arith, inl, inr, append_assoc}
use Rattle.std.proofs.lemmas.List.{append-nil}
use Rattle.std.proofs.lemmas.List.Elements.{Contains-append_cases, Contains-append_left, Contains-append_right}
use Rattle.std.proofs.lemmas.List.Elements.{Contains-push}
use Rattle.s370_store.specs.declared.Page.{Page}
use Rattle.s370_channel.specs.Guest.{area_block, guest_text}
use Rattle.s370_walk.specs.declared.parts.Ccw.{Ccw}
use Rattle.s370_walk.specs.Blocks.{block_number}
use Rattle.s370_store.specs.Memory.{Memory}
use Rattle.s370_walk.specs.Tracks.{has_area}
use Rattle.cp_needs.specs.Areas.{IsAreaByte, IsBegun, byte_place}
use Rattle.cp_needs.specs.declared.demand.Judged.{Judged}
use Rattle.cp_needs.specs.declared.demand.Judged.TheVariants as judged
use Rattle.cp_needs.specs.declared.notes.Notes.{Notes}
use Rattle.cp_needs.specs.Judged.{IfNotes}
use Rattle.cp_needs.specs.Kept.{IsPaged, IsPagedOnly}
use Rattle.cp_needs.specs.Needs.{IsDataByte}
use Rattle.cp_needs.specs.Noted.{ArePaged, IsDataOf, page_at}
use Rattle.cp_needs.specs.Words.{AreWords, IsAmong}
use Rattle.cp_needs.proofs.Blocks.{begun_place, bytes_on, none_on, none_some, place_after, some_same}
use Rattle.cp_needs.proofs.Finding.{word_same}
use Rattle.cp_needs.proofs.Programs.{word_fits}

none_in : {X : Type 0} (x : X) → Contains [] x → ⊥
none_in x (i, lt, is) = omega (arith, lt)

one_in : {X : Type 0} (x y : X) → Contains (x ∷ []) y → x ≡ y
one_in x y (zero, lt, is) = is
one_in x y (suc i, lt, is) = (let no : ⊥ = omega (arith, lt) in absurd no)

pub pages_none : (P : ℕ → Type 0) (xs : List Page) → ((a : ℕ) → P a → ⊥) → ArePaged P xs xs
pages_none P xs none = record {
  rest = [];
  is = sym (append-nil xs);
  paged = λ a p. absurd (none a p);
  only = λ page inside. absurd (none_in page inside);
}

pages_one : (P : ℕ → Type 0) (first : ℕ) (page : Page) (xs ys : List Page) → ys ≡ xs ++ page ∷ [] → page_at first ≡ page
    → P first → ((a : ℕ) → P a → page_at a ≡ page) → ArePaged P xs ys
pages_one P first page xs ys is at p all =
    record {
      rest = page ∷ [];
      is = is;
      paged = λ a q. subst (Contains (page ∷ [])) (sym (all a q)) (Contains-push [] page);
      only = λ other inside. (first, p, at ∙ one_in page other inside);
    }

pages_joined : (P Q R : ℕ → Type 0) (xs ys zs : List Page) → ArePaged P xs ys → ArePaged Q ys zs
    → ((a : ℕ) → R a → P a ⊎ Q a) → ((a : ℕ) → P a → R a) → ((a : ℕ) → Q a → R a) → ArePaged R xs zs
pages_joined P Q R xs ys zs p q split left right =
    record {
      rest = p.rest ++ q.rest;
      is = q.is ∙ ap (λ l. l ++ q.rest) p.is ∙ append_assoc xs p.rest q.rest;
      paged = λ a r. by_side a (split a r);
      only = λ page inside. by_part page (Contains-append_cases p.rest q.rest page inside);
    }
  where
    by_side : (a : ℕ) → P a ⊎ Q a → Contains (p.rest ++ q.rest) (page_at a)
    by_side a (inl one) = Contains-append_left p.rest q.rest (page_at a) (p.paged a one)
    by_side a (inr one) = Contains-append_right p.rest q.rest (page_at a) (q.paged a one)

    by_part : (page : Page) → Contains p.rest page ⊎ Contains q.rest page → (a : ℕ) × R a × (page_at a ≡ page)
    by_part page (inl there) = (let s = p.only page there in (s.0, left s.0 s.1, s.2))
    by_part page (inr there) = (let s = q.only page there in (s.0, right s.0 s.1, s.2))

pages_same : (P R : ℕ → Type 0) (xs ys : List Page) → ArePaged P xs ys → ((a : ℕ) → R a → P a) → ((a : ℕ) → P a → R a)
    → ArePaged R xs ys
pages_same P R xs ys p there back =
    record {
      rest = p.rest;
      is = p.is;
      paged = λ a r. p.paged a (there a r);
      only = λ page inside. (let s = p.only page inside in (s.0, back s.0 s.1, s.2));
    }

-- ---- the area of a word, block by block

-- a byte of its area before byte n
abbrev pub IsAreaBelow : Memory → Ccw → ℕ → ℕ → Type 0
IsAreaBelow m w n a = (b : IsAreaByte m w a) × (b.byte < n)

pub no_area : (m : Memory) (w : Ccw) (a : ℕ) → IsAreaBelow m w 0 a → ⊥
no_area m w a (b, lt) = omega (arith, lt)

-- a block lies on one page
abbrev IsInBlock : ℕ → ℕ → ℕ → Type 0
IsInBlock start count a = (start ≤ a) × (a < start + count)

same_page : (start count a : ℕ) → start % 2048 + count ≤ 2048 → IsInBlock start count a → a / 4096 ≡ start / 4096
same_page start count a short (from, to) = omega (arith, short, from, to)

page_same : (a b : ℕ) → a / 4096 ≡ b / 4096 → page_at a ≡ page_at b
page_same a b same = rw same refl

-- The pages of one more part of an area are noted.
pub area_on : (m : Memory) (w : Ccw) (n start count : ℕ) (page : Page) (xs ys zs : List Page) → has_area w ≡ true
    → n + count ≤ w.count → 0 < count → IsBegun (area_block m w) n → area_block m w (block_number n) ≡ Some start
    → start < 2 ^ 32 → start % 2048 + count ≤ 2048
    → page_at start ≡ page → ArePaged (IsAreaBelow m w n) xs ys → zs ≡ ys ++ page ∷ []
    → ArePaged (IsAreaBelow m w (n + count)) xs zs
area_on m w n start count page xs ys zs has counted some begun said low short at old new =
    pages_joined (IsAreaBelow m w n) (IsInBlock start count) (IsAreaBelow m w (n + count)) xs ys zs old
    (pages_one (IsInBlock start count) start page ys zs new at (omega arith, omega (arith, some))
    (λ a inside. page_same a start (same_page start count a short inside) ∙ at))
    (λ a r. by_place a r (place_after r.0.byte n)) (λ a r. (r.0, (let lt = r.1 in omega (arith, lt)))) (λ a r. back a r)
  where
    list : ℕ → Option ℕ
    list = area_block m w

    first : byte_place list n ≡ Some start
    first = begun_place list n begun ∙ said

    by_place : (a : ℕ) (r : IsAreaBelow m w (n + count) a) → (r.0.byte < n) ⊎ ((i : ℕ) × (r.0.byte ≡ n + i))
        → IsAreaBelow m w n a ⊎ IsInBlock start count a
    by_place a (b, lt) (inl before) = inl (b, before)
    by_place a (b, lt) (inr (i, is)) =
        let there : byte_place list (n + i) ≡ Some (start + i) =
        bytes_on list n start i first (omega (arith, lt, is, short)) low in
        let same : a ≡ start + i = some_same a (start + i) (sym b.at ∙ ap (byte_place list) is ∙ there) in
        inr (omega (arith, same), omega (arith, same, lt, is))

    back : (a : ℕ) → IsInBlock start count a → (b : IsAreaByte m w a) × (b.byte < n + count)
    back a (from, to) =
        let offset : a ≡ start + (a - start) = omega (arith, from) in
        let there : byte_place list (n + (a - start)) ≡ Some (start + (a - start)) =
        bytes_on list n start (a - start) first (omega (arith, to, from, short)) low in (
          record {
            byte = n + (a - start);
            has = has;
            counted = omega (arith, to, from, counted);
            at = there ∙ ap Some (sym offset);
          },
          omega (arith, to, from),
        )

-- An area that ends at a fault has its pages noted up to it.
pub area_past : (m : Memory) (w : Ccw) (n : ℕ) (xs ys : List Page) → IsBegun (area_block m w) n
    → area_block m w (block_number n) ≡ None → ArePaged (IsAreaBelow m w n) xs ys → ArePaged (IsAreaByte m w) xs ys
area_past m w n xs ys begun said old =
    pages_same (IsAreaBelow m w n) (IsAreaByte m w) xs ys old (λ a r. by_place a r (place_after r.byte n))
    (λ a below. below.0)
  where
    list : ℕ → Option ℕ
    list = area_block m w

    none : byte_place list n ≡ None
    none = begun_place list n begun ∙ said

    by_place : (a : ℕ) (b : IsAreaByte m w a) → (b.byte < n) ⊎ ((i : ℕ) × (b.byte ≡ n + i)) → IsAreaBelow m w n a
    by_place a b (inl before) = (b, before)
    by_place a b (inr (i, is)) =
        absurd (none_some a (byte_place list (n + i)) (none_on list n i none) (ap (byte_place list) (sym is) ∙ b.at))

-- An area has all its pages noted after its last byte.
pub area_done : (m : Memory) (w : Ccw) (n : ℕ) (xs ys : List Page) → w.count ≤ n → ArePaged (IsAreaBelow m w n) xs ys
    → ArePaged (IsAreaByte m w) xs ys
area_done m w n xs ys all old =
    pages_same (IsAreaBelow m w n) (IsAreaByte m w) xs ys old
    (λ a b. (b, (let counted = b.counted in omega (arith, counted, all)))) (λ a below. below.0)

not_both : (b : Bool) → b ≡ true → b ≡ false → ⊥
not_both b on off = cc

pub area_none : (m : Memory) (w : Ccw) (xs : List Page) → has_area w ≡ false → ArePaged (IsAreaByte m w) xs xs
area_none m w xs off = pages_none (IsAreaByte m w) xs (λ a b. not_both (has_area w) b.has off)

-- ---- a word

none_word : (o : Option Ccw) (w : Ccw) → o ≡ None → o ≡ Some w → ⊥
none_word o w e f = cc

-- The pages of a word's area are noted at its address.
pub data_word : (m : Memory) (address : ℕ) (w : Ccw) (xs ys : List Page) → guest_text m address ≡ Some w
    → ArePaged (IsAreaByte m w) xs ys → ArePaged (IsDataByte m address) xs ys
data_word m address w xs ys text old =
    pages_same (IsAreaByte m w) (IsDataByte m address) xs ys old
    (λ a r. subst (λ x. IsAreaByte m x a) (word_same (guest_text m address) r.0 w r.1 text) r.2)
    (λ a one. (w, text, one))

-- Where no word is, there are no pages of data.
pub data_nowhere : (m : Memory) (address : ℕ) (xs : List Page) → guest_text m address ≡ None
    → ArePaged (IsDataByte m address) xs xs
data_nowhere m address xs none =
    pages_none (IsDataByte m address) xs (λ a r. none_word (guest_text m address) r.0 none r.1)

-- ---- the words

before_last : (i n : ℕ) → i < n + 1 → (i < n) ⊎ (i ≡ n)
before_last i n lt = grind arith

pub no_data : (m : Memory) (words : List ℕ) → ArePaged (IsDataOf m words 0) [] []
no_data m words = pages_none (IsDataOf m words 0) [] (λ a r. (let lt = r.1 in omega (arith, lt)))

-- The pages of one more word's data are noted.
pub data_on : (m : Memory) (words : List ℕ) (n address : ℕ) (xs ys zs : List Page) → address ≡ slice_index words n
    → ArePaged (IsDataOf m words n) xs ys → ArePaged (IsDataByte m address) ys zs
    → ArePaged (IsDataOf m words (n + 1)) xs zs
data_on m words n address xs ys zs at old new =
    pages_joined (IsDataOf m words n) (IsDataByte m address) (IsDataOf m words (n + 1)) xs ys zs old new
    (λ a r. by_place a r (before_last r.0 n r.1)) (λ a r. (r.0, (let lt = r.1 in omega (arith, lt)), r.2))
    (λ a byte. (n, omega arith, rw (← at) byte))
  where
    by_place : (a : ℕ) (r : IsDataOf m words (n + 1) a) → (r.0 < n) ⊎ (r.0 ≡ n)
        → IsDataOf m words n a ⊎ IsDataByte m address a
    by_place a (i, lt, byte) (inl before) = inl (i, before, byte)
    by_place a (i, lt, byte) (inr same) = inr (rw (at, ← same) byte)

-- they are those of the program
module _ (m : Memory) (start : ℕ) (words : List ℕ) (all : AreWords m start words) (pages : List Page)
    (paged : ArePaged (IsDataOf m words (length words)) [] pages) where
  pub paged_of : IsPaged m start pages
  paged_of address a reached (w, said, byte) =
      (let fits = word_fits m address w said in at (all.all address reached (omega (arith, fits))))
    where
      at : IsAmong words address → Contains pages (page_at a)
      at (i, low, is) =
          let one : IsDataOf m words (length words) a = (i, low, rw is (w, said, byte)) in
          rw paged.is (paged.paged a one)

  pub paged_only : IsPagedOnly m start pages
  paged_only page there =
      let s = paged.only page (rw (← paged.is) there) in
      let (i, low, byte) = s.1 in
      (slice_index words i, s.0, all.reached i low, byte, s.2)

-- what is reported of notes
pub so_notes : (reported : Judged) (notes : Notes) (P : Notes → Type 0) → reported ≡ judged.Fixed notes
    → IfNotes reported P → P notes
so_notes reported notes P is p = subst (λ (j : Judged). IfNotes j P) is p
