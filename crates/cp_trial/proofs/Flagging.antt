-- Flags of pages, as they are marked one after the other.
use Rattle.std.specs.Prelude.{◌≡◌, ℕ, zero, suc, ◌+◌, ◌*◌, ◌/◌, ◌<◌, ◌≤◌, ◌⊎◌, Bool, true, false, List, [], ◌∷◌, ◌++◌}
use Rattle.std.specs.Prelude.{length, replicate, slice_index_or, take, refl}
use Rattle.std.proofs.Common.{ap, ◌∙◌, sym, subst, arith, inl, inr}
use Rattle.std.proofs.lemmas.Bool.{true≢false}
use Rattle.std.proofs.lemmas.List.{take_all, take_more}
use Rattle.std.proofs.lemmas.List.Elements.{Contains-append_cases, Contains-append_left, Contains-append_right}
use Rattle.s370_store.specs.declared.Page.{Page}
use Rattle.s370_store.specs.Memory.{Memory}
use Rattle.cp_dat.specs.Copies.{is_wanted}
use Rattle.cp_needs.specs.declared.kept.WordAt.{WordAt}
use Rattle.cp_needs.specs.Kept.{IsPaged, IsPagedOnly, IsText, IsTextOnly, fullword_at}
use Rattle.cp_needs.specs.Needs.{IsProgramPage}
use Rattle.cp_needs.specs.Noted.{page_at}
use Rattle.cp_trial.proofs.Trying.{flag_inside}
use Rattle.cp_trial.specs.Flags.{AreFlagged}

-- one more page was marked
pub record IsFlagged (page : ℕ) (old new : List Bool) : Type 0 where
  pub size : length new ≡ length old
  pub stays : (other : ℕ) → is_wanted old other → is_wanted new other
  pub marked : page < length old → is_wanted new page
  pub only : (other : ℕ) → is_wanted new other → is_wanted old other ⊎ (other ≡ page)

module _ {X : Type 0} (page_of : X → ℕ) where
  pub none_flagged : (flags : List Bool) → AreFlagged page_of [] flags flags
  none_flagged flags = record {
    size = refl;
    stays = λ page it. it;
    marked = λ x (k, low, e) inside. absurd (omega (arith, low));
    only = λ page it. inl it;
  }

  flagged_on : (xs : List X) (x : X) (old middle new : List Bool) → AreFlagged page_of xs old middle
      → IsFlagged (page_of x) middle new → AreFlagged page_of (xs ++ x ∷ []) old new
  flagged_on xs x old middle new before one = record {
    size = one.size ∙ before.size;
    stays = λ page it. one.stays page (before.stays page it);
    marked = λ y there inside. elim (Contains-append_cases xs (x ∷ []) y there) [
      | inl earlier ↦ one.stays (page_of y) (before.marked y earlier inside)
      | inr (k, low, e) ↦ (let first : k ≡ 0 = omega (arith, low) in
          let same : x ≡ y = rw first at e in
          subst (λ (z : X). is_wanted new (page_of z)) same
          (one.marked (subst (λ (z : X). page_of z < length middle) (sym same)
          (subst (λ (n : ℕ). page_of y < n) (sym before.size) inside))))
    ];
    only = λ page it. elim (one.only page it) [
      | inl earlier ↦ elim (before.only page earlier) [
        | inl first ↦ inl first
        | inr (y, there, at) ↦ inr (y, Contains-append_left xs (x ∷ []) y there, at)
      ]
      | inr at ↦ inr (x, Contains-append_right xs (x ∷ []) x (0, omega arith, refl), at)
    ];
  }

  pub flagged_more : (xs : List X) (i : ℕ) (other : X) (old middle new : List Bool) → i < length xs
      → AreFlagged page_of (take i xs) old middle → IsFlagged (page_of (slice_index_or xs i other)) middle new
      → AreFlagged page_of (take (i + 1) xs) old new
  flagged_more xs i other old middle new low before one =
      rw (take_more xs i other low) (flagged_on (take i xs) (slice_index_or xs i other) old middle new before one)

  pub flagged_all : (xs : List X) (i : ℕ) (old new : List Bool) → length xs ≤ i → AreFlagged page_of (take i xs) old new
      → AreFlagged page_of xs old new
  flagged_all xs i old new past before =
      subst (λ (ys : List X). AreFlagged page_of ys old new) (take_all i xs past) before

-- ---- the pages of a program

differ : false ≡ true → ⊥
differ it = true≢false (sym it)

unflagged : (n page : ℕ) → is_wanted (replicate n false) page → ⊥
unflagged zero page it = differ it
unflagged (suc n) zero it = differ it
unflagged (suc n) (suc page) it = unflagged n page it

same_page : (a : ℕ) → a / 4 * 4 / 4096 ≡ a / 4096
same_page a = omega arith

module _ (m : Memory) (start : ℕ) (count : ℕ) (size : length m.bytes ≡ count * 4096) (text : List WordAt)
    (pages : List Page) (first middle last : List Bool)
    (words : AreFlagged (λ (w : WordAt). w.start / 4096) text first middle)
    (areas : AreFlagged (λ (page : Page). page.0) pages middle last) (none : first ≡ replicate count false)
    (long : length first ≡ count) where
  pub all_flagged : (page : ℕ) → IsText m start text → IsPaged m start pages → IsProgramPage m start page
      → is_wanted last page
  all_flagged page texts paged p = elim p.needed [
    | inl word ↦ (
        let inside : p.byte < length m.bytes = omega (arith, p.at, p.inside, size) in
        let flag : p.byte / 4 * 4 / 4096 < length first = omega (arith, p.at, p.inside, size, long, same_page p.byte) in
        let there = texts p.address p.byte p.reached word inside in
        let marked = words.marked (fullword_at m.bytes (p.byte / 4 * 4)) there flag in
        areas.stays page (subst (λ (n : ℕ). is_wanted middle n) (same_page p.byte ∙ sym p.at) marked))
    | inr area ↦ (
        let flag : p.byte / 4096 < length middle = omega (arith, p.at, p.inside, size, long, words.size) in
        subst (λ (n : ℕ). is_wanted last n) (sym p.at)
        (areas.marked (page_at p.byte) (paged p.address p.byte p.reached area) flag))
  ]

  flag_on_page : (page : ℕ) → is_wanted last page → page * 4096 < length m.bytes
  flag_on_page page it = let low = flag_inside last page it in omega (arith, low, size, long, words.size, areas.size)

  pub only_flagged : (page : ℕ) → IsTextOnly m start text → IsPagedOnly m start pages → is_wanted last page
      → IsProgramPage m start page
  only_flagged page texts paged it = elim (areas.only page it) [
    | inl word ↦ elim (words.only page word) [
      | inl before ↦ absurd (unflagged count page (subst (λ (flags : List Bool). is_wanted flags page) none before))
      | inr (w, there, at) ↦ (let one = texts w there in
          record {
            address = one.0;
            reached = one.1;
            byte = w.start;
            needed = inl one.2;
            at = at;
            inside = flag_on_page page it;
          })
    ]
    | inr (number, there, at) ↦
        (let one = paged number there in
        record {
          address = one.0;
          reached = one.2;
          byte = one.1;
          needed = inr one.3;
          at = at ∙ sym (ap (λ (p : Page). p.0) one.4);
          inside = flag_on_page page it;
        })
  ]
