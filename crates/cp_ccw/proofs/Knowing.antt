-- A program that is known to be fixed stays so.
use Rattle.std.specs.Prelude.{ℕ, ◌+◌, ◌*◌, ◌/◌, ◌%◌, ◌<◌, ◌≤◌, ◌≡◌, ◌⊎◌, true, Contains, List, [], ◌∷◌, ◌++◌, length}
use Rattle.std.specs.Prelude.{slice_index_or, take, Option, Some, is_some, refl}
use Rattle.std.proofs.Common.{ap, ◌∙◌, sym, subst, arith, inl, inr}
use Rattle.std.proofs.lemmas.List.{take_more}
use Rattle.std.proofs.lemmas.List.Elements.{All-contains, All-push, Contains-append_cases, Contains-append_left}
use Rattle.std.proofs.lemmas.List.Elements.{Contains-append_right}
use Rattle.s370_channel.specs.declared.words.Caw.{Caw}
use Rattle.s370_store.specs.declared.Page.{Page}
use Rattle.cp_dat.specs.declared.dat.Dat.{Dat}
use Rattle.cp_dat.specs.Lent.{is_lent_page, lent_bytes, lent_frame, lent_memory}
use Rattle.cp_needs.specs.Kept.{IsAsItStood, IsPagedOnly, fullword_at}
use Rattle.cp_needs.specs.Needs.{IsDataByte, IsHeld, IsTextByte}
use Rattle.cp_needs.specs.Noted.{page_at}
use Rattle.cp_needs.specs.Words.{IsFixedStill}
use Rattle.cp_needs.proofs.Standing.{kept_of}
use Rattle.cp_ccw.specs.declared.kept.PageInFrame.{PageInFrame}
use Rattle.cp_ccw.specs.CachedProgram.{IsFrame}
use Rattle.cp_ccw.specs.CachedPages.{ArePlaced, ArePlacedOnly, IsAsKnown, IsKnown, KnownProgram}
use Rattle.cp_ccw.specs.Placed.{IsPlacedOne}

-- ---- what is noted

pub not_placed : (d : Dat) (page : Page) (held : List PageInFrame) → length (lent_bytes d) < page.0 * 4096 + 4096
    → IsPlacedOne d page held held
not_placed d page held past =
    record {
      grows = λ h there. there;
      here = λ inside. absurd (omega (arith, past, inside));
      only = λ h there. inl there;
      stand = λ all. all;
    }

last_page : (old : List PageInFrame) (one h : PageInFrame) → Contains (old ++ one ∷ []) h
    → Contains old h ⊎ (h.page ≡ one.page)
last_page old one h there = elim (Contains-append_cases old (one ∷ []) h there) [
  | inl before ↦ inl before
  | inr (k, lt, e) ↦ (let first : k
      ≡ 0 = omega (arith, lt) in inr (ap (λ (x : PageInFrame). x.page) (sym (rw first at e))))
]

-- A page that was pushed with its frame is placed.
pub one_placed : (d : Dat) (page : Page) (old new : List PageInFrame) (one : PageInFrame) → new ≡ old ++ one ∷ []
    → one.page ≡ page → IsFrame d one → IsPlacedOne d page old new
one_placed d page old new one is at frame = record {
  grows = λ h there. rw is (Contains-append_left old (one ∷ []) h there);
  here = λ inside. (one, rw is (Contains-append_right old (one ∷ []) one (0, omega arith, refl)), at);
  only = λ h there. by_case h (last_page old one h (rw is at there));
  stand = λ all. rw is (All-push (IsFrame d) old one all frame);
}
  where
    by_case : (h : PageInFrame) → Contains old h ⊎ (h.page ≡ one.page) → Contains old h ⊎ (h.page ≡ page)
    by_case h (inl before) = inl before
    by_case h (inr same) = inr (same ∙ at)

-- ---- of a list of pages, those before one

pub one_on : (d : Dat) (pages : List Page) (page : Page) (old new : List PageInFrame)
    → ArePlaced (length (lent_bytes d)) pages old → IsPlacedOne d page old new
    → ArePlaced (length (lent_bytes d)) (pages ++ page ∷ []) new
one_on d pages page old new before one other there inside =
    by_case (Contains-append_cases pages (page ∷ []) other there)
  where
    by_case : Contains pages other ⊎ Contains (page ∷ []) other → (h : PageInFrame) × Contains new h × (h.page ≡ other)
    by_case (inl earlier) = (let was = before other earlier inside in (was.0, one.grows was.0 was.1, was.2))
    by_case (inr (k, lt, e)) =
        let first : k ≡ 0 = omega (arith, lt) in
        let same : page ≡ other = rw first at e in
        subst (λ (p : Page). (h : PageInFrame) × Contains new h × (h.page ≡ p)) same (one.here (rw same inside))

pub only_on : (d : Dat) (pages : List Page) (page : Page) (old new : List PageInFrame) → ArePlacedOnly pages old
    → IsPlacedOne d page old new → ArePlacedOnly (pages ++ page ∷ []) new
only_on d pages page old new before one h there = by_case (one.only h there)
  where
    by_case : Contains old h ⊎ (h.page ≡ page) → Contains (pages ++ page ∷ []) h.page
    by_case (inl earlier) = Contains-append_left pages (page ∷ []) h.page (before h earlier)
    by_case (inr same) = rw same (Contains-append_right pages (page ∷ []) page (0, omega arith, refl))

-- One more page that is placed places one more of the pages.
pub placed_more : (d : Dat) (pages : List Page) (i : ℕ) (other : Page) (old new : List PageInFrame) → i < length pages
    → ArePlaced (length (lent_bytes d)) (take i pages) old → IsPlacedOne d (slice_index_or pages i other) old new
    → ArePlaced (length (lent_bytes d)) (take (i + 1) pages) new
placed_more d pages i other old new lt before one =
    rw (take_more pages i other lt) (one_on d (take i pages) (slice_index_or pages i other) old new before one)

-- Nothing but the pages that were placed is noted when one more is.
pub only_more : (d : Dat) (pages : List Page) (i : ℕ) (other : Page) (old new : List PageInFrame) → i < length pages
    → ArePlacedOnly (take i pages) old → IsPlacedOne d (slice_index_or pages i other) old new
    → ArePlacedOnly (take (i + 1) pages) new
only_more d pages i other old new lt before one =
    rw (take_more pages i other lt) (only_on d (take i pages) (slice_index_or pages i other) old new before one)

pub none_placed : (size : ℕ) (held : List PageInFrame) → ArePlaced size [] held
none_placed size held page (k, lt, e) inside = absurd (omega (arith, lt))

pub none_only : (pages : List Page) → ArePlacedOnly pages []
none_only pages h (k, lt, e) = absurd (omega (arith, lt))

-- ---- it is as it was

some_is : {X : Type 0} (o : Option X) (x : X) → o ≡ Some x → is_some o ≡ true
some_is o x e = rw e refl

module _ (k : KnownProgram) (known : IsKnown k.caw.address k.size k.text k.held) (d : Dat) (caw : Caw)
    (base : IsAsKnown k d caw) where
  data_there : (a : ℕ) → Contains known.pages (page_at a) → a / 4096 * 4096 < k.size → is_lent_page d (a / 4096) ≡ true
  data_there a noted inside =
      let size = known.whole in
      let one = known.placed (page_at a) noted (omega (arith, inside, size)) in
      let now = All-contains (IsFrame d) k.held one.0 base.frames one.1 in
      let at : one.0.page.0 ≡ a / 4096 = ap (λ (p : Page). p.0) one.2 in
      rw at at (some_is (lent_frame d one.0.page.0) one.0.frame.0 now.1)

  text_there : (address a : ℕ) → IsTextByte known.memory address a → a < length known.memory.bytes
      → Contains k.text (fullword_at known.memory.bytes (a / 4 * 4)) → is_lent_page d (a / 4096) ≡ true
  text_there address a byte inside noted =
      let stood = All-contains (IsAsItStood (lent_bytes d) (is_lent_page d)) k.text
      (fullword_at known.memory.bytes (a / 4 * 4)) base.words noted in
      let here : a / 4 * 4 + a % 4 ≡ a = omega arith in
      rw here at (stood.0.here (a % 4) (omega arith))

  byte_low : (page byte : ℕ) → page ≡ byte / 4096 → page * 4096 < length known.memory.bytes
      → byte < length known.memory.bytes
  byte_low page byte at inside =
      (let sized = known.sized in let whole = known.whole in omega (arith, sized, whole, inside, at))

  page_low : (page byte : ℕ) → page ≡ byte / 4096 → page * 4096 < length known.memory.bytes
      → byte / 4096 * 4096 < k.size
  page_low page byte at inside = (let sized = known.sized in omega (arith, sized, inside, at))

  still_held : IsHeld known.memory k.caw.address (is_lent_page d)
  still_held page needed = rw needed.at (by_byte needed.needed)
    where
      by_byte : IsTextByte known.memory needed.address needed.byte ⊎ IsDataByte known.memory needed.address needed.byte
          → is_lent_page d (needed.byte / 4096) ≡ true
      by_byte (inl text) =
          let low = byte_low page needed.byte needed.at needed.inside in
          text_there needed.address needed.byte text low
          (known.text_is needed.address needed.byte needed.reached text low)
      by_byte (inr area) = data_there needed.byte (known.paged needed.address needed.byte needed.reached area)
          (page_low page needed.byte needed.at needed.inside)

  pub stands_still : IsFixedStill (lent_memory d) (is_lent_page d) caw.address
  stands_still =
      let start : k.caw.address ≡ caw.address = ap (λ (x : Caw). x.address) base.same_caw in
      subst (λ (a : ℕ). IsFixedStill (lent_memory d) (is_lent_page d) a) start (record {
        memory = known.memory;
        fixed = known.fixed;
        held = still_held;
        kept = kept_of known.memory (lent_memory d) k.caw.address k.text (is_lent_page d) known.text_is
            (sym base.same_size ∙ sym known.sized) base.words;
      })

-- a page of an area of a program whose pages are present
pub data_held : (d : Dat) (start : ℕ) (pages : List Page) (page : Page) → IsHeld (lent_memory d) start (is_lent_page d)
    → IsPagedOnly (lent_memory d) start pages → Contains pages page → page.0 * 4096 + 4096 ≤ length (lent_bytes d)
    → is_lent_page d page.0 ≡ true
data_held d start pages page held only there inside =
    let (address, a, reached, byte, at) = only page there in
    let same : a / 4096 ≡ page.0 = ap (λ (p : Page). p.0) at in
    held page.0 (record {
      address = address;
      reached = reached;
      byte = a;
      needed = inr byte;
      at = sym same;
      inside = omega (arith, inside);
    })
