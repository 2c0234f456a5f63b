-- A page that has come for a unit is held until the unit ends, and so doesn't come again.
use Rattle.std.proofs.Common.{◌≡◌, ◌≤◌, ◌==◌, ◌+◌, inl, inr, Bool, ℕ, zero, suc, ◌∙◌, List, [], ◌∷◌}
use Rattle.std.proofs.Common.{Option, true, refl, sym, ap, subst, arith}
use Rattle.std.proofs.lemmas.Bool.{cases_eq}
use Rattle.std.specs.Prelude.{Contains, is_some}
use Rattle.cp_frames.specs.Layout.{FrameSupply, is_there}
use Rattle.cp_dat.specs.Supplied.{ArePageIns, IsHeld, IsPageIn}
use Rattle.cp_dat.specs.Bringing.{differ}
use Rattle.cp_dat.specs.Copies.{counted, times_among}
use Rattle.cp_dat.specs.Laws.{AreDistinct}
use Rattle.cp_dat.proofs.Brought.{at_there, one_for}
use Rattle.cp_dat.proofs.Counted.{apart_test, counted_once}

first_held : (user page : ℕ) (old new : FrameSupply) → IsPageIn user old page new → IsHeld new user page
first_held user page old new step = (one_for user page old new step).held page (0, omega arith, refl)

stays_held : (user page other : ℕ) (old new : FrameSupply) → IsPageIn user old page new → IsHeld old user other
    → IsHeld new user other
stays_held user page other old new step at =
    let stays = (one_for user page old new step).stays at.frame at.pinned in
    record { frame = at.frame; here = stays.kept ∙ at.here; pinned = stays.pinned }

held_there : (user page : ℕ) (supply : FrameSupply) → IsHeld supply user page → is_there supply.owners user page ≡ true
held_there user page supply at = at_there supply.owners user page at.frame at.here

-- a page that is held doesn't come
not_again : (user other : ℕ) (pages : List ℕ) (old held : FrameSupply) → IsHeld old user other
    → ArePageIns user old pages held → Contains pages other → ⊥
not_again user other [] old held at chain (k, less, same) = absurd (omega (arith, less))
not_again user other (page ∷ pages) old held at (next, step, rest) (zero, less, same) =
    let there : is_there old.owners user page ≡ true =
    subst (λ (p : ℕ). is_there old.owners user p ≡ true) (sym same) (held_there user other old at) in
    differ (ap (λ (o : Option ℕ). is_some o) step.absent) there
not_again user other (page ∷ pages) old held at (next, step, rest) (suc k, less, same) =
    not_again user other pages next held (stays_held user page other old next step at) rest (k, omega arith, same)

-- No page comes twice while others are pinned.
pub comes_once : (user : ℕ) (pages : List ℕ) (old held : FrameSupply) → ArePageIns user old pages held
    → AreDistinct pages
comes_once user [] old held chain = tt
comes_once user (page ∷ pages) old held (next, step, rest) = (
  λ listed. not_again user page pages next held (first_held user page old next step) rest listed,
  comes_once user pages next held rest,
)

-- what is not in a list is in it no time
none_among : (page : ℕ) (pages : List ℕ) → (Contains pages page → ⊥) → times_among page pages ≡ 0
none_among page [] none = refl
none_among page (other ∷ pages) none =
    let this : counted (other == page) ≡ 0 =
    apart_test (other == page) other page refl (λ same. none (0, omega arith, same)) in
    let rest : times_among page pages ≡ 0 = none_among page pages (λ at. none (suc at.0, omega (arith, at.1), at.2)) in
    omega (arith, this, rest)

-- Of pages that are distinct each is there at most once.
pub distinct_once : (page : ℕ) (pages : List ℕ) → AreDistinct pages → times_among page pages ≤ 1
distinct_once page [] distinct = omega arith
distinct_once page (other ∷ pages) distinct =
    let before : times_among page pages ≤ 1 = distinct_once page pages distinct.1 in
    elim (cases_eq other page) [
      | inl same ↦ (let none : times_among page pages ≡ 0 =
          none_among page pages (λ at. distinct.0 (subst (λ (p : ℕ). Contains pages p) (sym same) at)) in
          let few : counted (other == page) ≤ 1 = counted_once (other == page) in
          omega (arith, none, few))
      | inr apart ↦ (let this : counted (other == page) ≡ 0 =
          apart_test (other == page) other page refl apart in
          omega (arith, this, before))
    ]

-- what is held stays so until the unit ends
held_on : (user other : ℕ) (pages : List ℕ) (old held : FrameSupply) → IsHeld old user other
    → ArePageIns user old pages held → IsHeld held user other
held_on user other [] old held at same = subst (λ (s : FrameSupply). IsHeld s user other) (sym same) at
held_on user other (page ∷ pages) old held at (next, step, rest) =
    held_on user other pages next held (stays_held user page other old next step at) rest

-- A page that came is there until the unit ends.
pub stays_to_the_end : (user : ℕ) (pages : List ℕ) (old held : FrameSupply) (page : ℕ) → ArePageIns user old pages held
    → Contains pages page → is_there held.owners user page ≡ true
stays_to_the_end user [] old held page chain (k, less, same) = absurd (omega (arith, less))
stays_to_the_end user (p ∷ pages) old held page (next, step, rest) (zero, less, same) =
    let at : IsHeld next user page = subst (λ (x : ℕ). IsHeld next user x) same (first_held user p old next step) in
    held_there user page held (held_on user page pages next held at rest)
stays_to_the_end user (p ∷ pages) old held page (next, step, rest) (suc k, less, same) =
    stays_to_the_end user pages next held page rest (k, omega arith, same)
