-- Why a page is refused for which a fixed program's pages are held.
use Rattle.std.proofs.Common.{◌≡◌, ◌∙◌, ap, sym, subst, ℕ, zero, suc, ◌<◌, ◌⊎◌, Bool, true, false, List, [], ◌∷◌}
use Rattle.std.proofs.Common.{get_or, length, replicate, refl, Option, None, Some, arith, inl, inr}
use Rattle.std.specs.Prelude.{All, Contains, is_some}
use Rattle.std.proofs.lemmas.List.{length-replicate}
use Rattle.std.proofs.lemmas.List.Elements.{All-get_or}
use Rattle.s370_channel.specs.Supplied.{AllSuch, EachSuch}
use Rattle.cp_frames.specs.declared.numbers.UserPage.{UserPage}
use Rattle.cp_frames.specs.Layout.{FrameSupply, Holds, frame_of, is_there, owned}
use Rattle.cp_frames.specs.Paging.{IsPinned, IsRefused}
use Rattle.cp_frames.proofs.Tables.{page_is}
use Rattle.cp_frames.proofs.Moves.{held_place}
use Rattle.machine_channels.specs.Channels.{NoRoom}
use Rattle.cp_dat.specs.declared.dat.Dat.{Dat}
use Rattle.cp_dat.specs.Copies.{AllAre, EachAre}
use Rattle.cp_dat.specs.Lent.{is_lent_page, lent_pool, user_of}
use Rattle.cp_dat.specs.Supplied.{HasNoRoom, HasSuch, IsBetweenUnits, IsPagedFor, Supplied, TakesPins, unpinned}
use Rattle.cp_resident.specs.GuestChannels.{IsFilled}

-- there is no room for a page, or each present page of the user is held, in each frame
abbrev pub no_room : Dat → (ℕ → Type 0) → ℕ → Type 0
no_room d needs page = NoRoom (λ (e : Dat) (p : ℕ). HasNoRoom (lent_pool e).supply (user_of e) p)
    (λ (e : Dat) (p : ℕ). IsFilled (lent_pool e).supply (user_of e) p) is_lent_page d needs page

none_pinned : (n frame : ℕ) → get_or (replicate n false) frame false ≡ false
none_pinned zero frame = refl
none_pinned (suc n) zero = refl
none_pinned (suc n) (suc frame) = none_pinned n frame

not_both : {b : Bool} → b ≡ false → b ≡ true → ⊥
not_both off on = cc

listed : (P : ℕ → Type 0) (pages : List ℕ) (k page : ℕ) → AllSuch P pages → k < length pages
    → get_or pages k page ≡ page → P page
listed P [] k page all low at = absurd (omega (arith, low))
listed P (first ∷ pages) zero page all low at = subst P at all.0
listed P (first ∷ pages) (suc k) page all low at = listed P pages k page all.1 (omega (arith, low)) at

such_of : (P : ℕ → Type 0) (pages : List ℕ) (page : ℕ) → AllSuch P pages → Contains pages page → P page
such_of P pages page all (k, low, at) = listed P pages k page all low at

module _ (user : ℕ) (pages : List ℕ) (needs : ℕ → Type 0) (old between : FrameSupply) (rest : IsBetweenUnits old)
    (paged : IsPagedFor user pages old between) (all : AllSuch needs pages) where
  -- where no frame was pinned before, each that is pinned has a page that is needed
  pinned_has : (frame : ℕ) → IsPinned between.pins frame → HasSuch user needs between.owners frame
  pinned_has frame pinned = elim (paged.marked frame pinned) [
    | inl before ↦ absurd (not_both
        (ap (λ (ps : List Bool). get_or ps frame false) rest.idle ∙ none_pinned (length old.owners) frame) before)
    | inr one ↦ record { page = one.page; such = such_of needs pages one.page all one.such; here = one.here }
  ]

  all_pinned : All (λ pinned. pinned ≡ true) between.pins → (frame : ℕ) → frame < length between.owners
      → HasSuch user needs between.owners frame
  all_pinned pinned frame within =
      let count : length between.pins ≡ length between.owners =
      paged.same_marks ∙ ap (λ (ps : List Bool). length ps) rest.idle ∙ length-replicate (length old.owners) false ∙
      sym paged.same_frames in
      pinned_has frame (All-get_or (λ (b : Bool). b ≡ true) between.pins frame false (omega (arith, within, count))
      pinned)

-- two pages of a user that are in one frame are one page
abbrev page_in : Option UserPage → ℕ
page_in None = 0
page_in (Some there) = there.page.0

one_page : (owners : List (Option UserPage)) (user frame one other : ℕ) → Holds owners frame (owned user one)
    → Holds owners frame (owned user other) → one ≡ other
one_page owners user frame one other a b = ap page_in (sym a ∙ b)

-- a page that is present is in a frame
where_there : (owners : List (Option UserPage)) (user page : ℕ) → is_there owners user page ≡ true
    → (frame : ℕ) × (frame < length owners) × Holds owners frame (owned user page)
where_there owners user page there =
    let at : (o : Option ℕ) → frame_of owners user page ≡ o → is_some o ≡ true
    → (frame : ℕ) × (frame < length owners) × Holds owners frame (owned user page) = elim [
      | None ↦ λ e is. absurd (not_both refl is)
      | Some frame ↦ λ e is. (let here = page_is owners user page frame e in
          (frame, held_place owners frame (owned user page) here, here))
    ] in
    at (frame_of owners user page) refl there

-- each present page is needed, where each frame has one that is
each_needed : (owners : List (Option UserPage)) (user : ℕ) (needs : ℕ → Type 0)
    → ((frame : ℕ) → frame < length owners → HasSuch user needs owners frame) → (page : ℕ)
    → is_there owners user page ≡ true → needs page
each_needed owners user needs each page there =
    let at = where_there owners user page there in
    let one = each at.0 at.1 in
    subst needs (one_page owners user at.0 one.page page one.here at.2) one.such

-- a page is refused in a program that began with no pin only where there is no room
pub room_of : (d0 d1 d2 : Dat) (pages : List ℕ) (needs : ℕ → Type 0) (page : ℕ) → IsBetweenUnits (lent_pool d0).supply
    → Supplied d0 pages d1 → AllSuch needs pages → IsRefused (lent_pool d1).supply (user_of d1) page → TakesPins d1 d2
    → no_room d2 needs page
room_of d0 d1 d2 pages needs page rest brought all refused taken =
    let user = user_of d1 in
    let between = (lent_pool d1).supply in
    let paged : IsPagedFor user pages (lent_pool d0).supply between =
    subst (λ (n : ℕ). IsPagedFor n pages (lent_pool d0).supply between) (sym brought.kept.same_user) brought.paged
    in
    let R : FrameSupply → ℕ → Type 0 = λ supply u. HasNoRoom supply u page
    ⊎ (IsFilled supply u page × ((held : ℕ) → is_there supply.owners u held ≡ true → needs held)) in
    let now : R between user = elim refused.stuck [
      | inl pinned ↦ (let each = all_pinned user pages needs (lent_pool d0).supply between rest paged all pinned in
          inr (
            record {
              absent = ap (λ (o : Option ℕ). is_some o) refused.absent;
              owned = λ frame within. (let one = each frame within in
                  record { page = one.page; such = tt; here = one.here });
            },
            each_needed between.owners user needs each,
          ))
      | inr none ↦ inl (record {
        absent = ap (λ (o : Option ℕ). is_some o) refused.absent;
        nowhere = ap (λ (o : Option ℕ). is_some o) none.1;
        full = refused.full;
        full_slots = none.0;
      })
    ] in
    let left : R (unpinned between) user = elim now [
      | inl out ↦ inl (record {
        absent = out.absent;
        nowhere = out.nowhere;
        full = out.full;
        full_slots = out.full_slots;
      })
      | inr (filled, held) ↦ inr (record { absent = filled.absent; owned = filled.owned }, held)
    ] in
    subst (λ (supply : FrameSupply). R supply (user_of d2)) (sym taken.supply)
    (subst (λ (n : ℕ). R (unpinned between) n) (sym taken.kept.same_user) left)

-- ---- what came

such_for : (P Q : ℕ → Type 0) → ((page : ℕ) → P page → Q page) → (pages : List ℕ) → AllAre P pages → AllSuch Q pages
such_for P Q more [] all = tt
such_for P Q more (page ∷ pages) all = (more page all.0, such_for P Q more pages all.1)

-- If each page of each unit is one, all units are such.
pub each_for : (P Q : ℕ → Type 0) → ((page : ℕ) → P page → Q page) → (units : List (List ℕ)) → EachAre P units
    → EachSuch Q units
each_for P Q more [] all = tt
each_for P Q more (pages ∷ units) all = (such_for P Q more pages all.0, each_for P Q more units all.1)
