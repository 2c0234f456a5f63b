-- The laws of units one after another: pages are brought and pinned, and the pins are taken away.
use Rattle.std.specs.Prelude.{◌≡◌, ℕ, zero, suc, ◌≤◌, List, [], ◌∷◌, ◌++◌, Bool, true, false, All}
use Rattle.std.specs.Prelude.{Contains, Option, Some, None, is_some, length, replicate, refl}
use Rattle.std.proofs.Common.{◌∙◌, sym, ap, subst, inl, inr, arith, length-append}
use Rattle.std.proofs.lemmas.Bool.Decides.{nat_tests}
use Rattle.std.proofs.lemmas.Grind.{common_steps}
use Rattle.std.specs.List.{concat}
use Rattle.std.proofs.lemmas.List.{append-nil, append_assoc, length-replicate}
use Rattle.std.proofs.lemmas.List.Elements.{All-head, All-tail, Contains-append_left}
use Rattle.std.proofs.lemmas.List.Elements.{Contains-append_right}
use Rattle.cp_dat.specs.declared.dat.Dat.{Dat}
use Rattle.cp_frames.specs.Layout.{FrameSupply, is_page, is_there, owned}
use Rattle.cp_dat.specs.Lent.{KeepsRest, is_lent_page, keeps_frames, keeps_frames_on, lent_pool}
use Rattle.cp_dat.specs.Lent.{user_of}
use Rattle.cp_frames.specs.Paging.{IsRefused, counted_by, unpinned_count}
use Rattle.cp_dat.specs.Supplied.{AreUnits, HasNoRoom, IsBetweenUnits, IsBroughtFor}
use Rattle.cp_dat.specs.Supplied.{IsBroughtInUnits, IsPagedFor, Supplied, SuppliedUnits, TakesPins}
use Rattle.cp_dat.specs.Supplied.{unpinned}
use Rattle.cp_dat.specs.Bringing.{counted_on, differ, found_from}

-- ---- what came

-- pages that were brought and pinned came, also when the pins are taken away
brought_for : (user : ℕ) (pages : List ℕ) (old between new : FrameSupply)
    → IsPagedFor user pages old between → new ≡ unpinned between → IsBroughtFor user pages old new
brought_for user pages old between new paged is =
    subst (λ (s : FrameSupply). IsBroughtFor user pages old s) (sym is) (record {
      same_frames = paged.same_frames;
      same_slots = paged.same_slots;
      kept = paged.kept;
      framed = paged.framed;
      paged_in = paged.paged_in;
      page_ins = paged.page_ins;
    })

brought_none : (user : ℕ) (old new : FrameSupply) → new ≡ old → IsBroughtFor user [] old new
brought_none user old new same =
    subst (λ (s : FrameSupply). IsBroughtFor user [] old s) (sym same) (record {
      same_frames = refl;
      same_slots = refl;
      kept = λ u page stands. stands;
      framed = λ u page there. inl there;
      paged_in = λ u page stands. inl stands;
      page_ins = refl;
    })

brought_on : (user : ℕ) (first second : List ℕ) (old middle new : FrameSupply)
    → IsBroughtFor user first old middle → IsBroughtFor user second middle new
    → IsBroughtFor user (first ++ second) old new
brought_on user first second old middle new a b = record {
  same_frames = b.same_frames ∙ a.same_frames;
  same_slots = b.same_slots ∙ a.same_slots;
  kept = λ u page stands. b.kept u page (a.kept u page stands);
  framed = λ u page there. elim (b.framed u page there) [
    | inl earlier ↦ elim (a.framed u page earlier) [
      | inl before ↦ inl before
      | inr now ↦ inr (now.0, Contains-append_left first second page now.1)
    ]
    | inr now ↦ inr (now.0, Contains-append_right first second page now.1)
  ];
  paged_in = λ u page stands. elim (b.paged_in u page stands) [
    | inl earlier ↦ elim (a.paged_in u page earlier) [
      | inl there ↦ inl there
      | inr now ↦ inr (now.0, Contains-append_left first second page now.1)
    ]
    | inr now ↦ inr (now.0, Contains-append_right first second page now.1)
  ];
  page_ins = b.page_ins ∙ ap (counted_by (length second)) a.page_ins ∙ sym
      (ap (λ (n : ℕ). counted_by n old.page_ins) (length-append first second) ∙ counted_on
      (length first) (length second) old.page_ins);
}

-- ---- units

-- one unit
pub unit_for : (user : ℕ) (pages : List ℕ) (old between new : FrameSupply)
    → IsPagedFor user pages old between → new ≡ unpinned between
    → IsBroughtInUnits user (pages ∷ []) old new
unit_for user pages old between new paged is = record {
  in_units = (new, record { held = between; page_ins = paged.page_ins_are; let_go = is }, refl);
  brought = subst (λ (all : List ℕ). IsBroughtFor user all old new) (sym (append-nil pages))
      (brought_for user pages old between new paged is);
}

-- where no frame is pinned, nothing is taken away with the pins
still_unpinned : (supply : FrameSupply) → IsBetweenUnits supply → supply ≡ unpinned supply
still_unpinned supply rest =
    let count : length supply.owners ≡ length supply.pins =
    sym (ap (λ (ps : List Bool). length ps) rest.idle ∙ length-replicate (length supply.owners)
    false) in
    ap (λ (ps : List Bool). record supply { pins = ps })
    (rest.idle ∙ ap (λ (n : ℕ). replicate n false) count)

-- units that bring nothing
units_none : (user n : ℕ) (old : FrameSupply) → IsBetweenUnits old
    → AreUnits user old (replicate n []) old
units_none user zero old rest = refl
units_none user (suc n) old rest = (
  old,
  record { held = old; page_ins = refl; let_go = still_unpinned old rest },
  units_none user n old rest,
)

no_pages : (n : ℕ) → concat (replicate n []) ≡ []
no_pages zero = refl
no_pages (suc n) = no_pages n

quiet_units : (user n : ℕ) (old new : FrameSupply) → IsBetweenUnits old → new ≡ old
    → IsBroughtInUnits user (replicate n []) old new
quiet_units user n old new rest same = record {
  in_units = subst (λ (s : FrameSupply). AreUnits user old (replicate n []) s) (sym same)
      (units_none user n old rest);
  brought = subst (λ (all : List ℕ). IsBroughtFor user all old new) (sym (no_pages n))
      (brought_none user old new same);
}

units_on : (user : ℕ) (first second : List (List ℕ)) (old middle new : FrameSupply)
    → AreUnits user old first middle → AreUnits user middle second new
    → AreUnits user old (first ++ second) new
units_on user [] second old middle new same b =
    subst (λ (s : FrameSupply). AreUnits user s second new) same b
units_on user (pages ∷ first) second old middle new a b =
    (a.0, a.1, units_on user first second a.0 middle new a.2 b)

all_pages : (first second : List (List ℕ))
    → concat (first ++ second) ≡ concat first ++ concat second
all_pages [] second = refl
all_pages (pages ∷ first) second =
    ap (λ (rest : List ℕ). pages ++ rest) (all_pages first second) ∙ sym
    (append_assoc pages (concat first) (concat second))

in_units_on : (user : ℕ) (first second : List (List ℕ)) (old middle new : FrameSupply)
    → IsBroughtInUnits user first old middle → IsBroughtInUnits user second middle new
    → IsBroughtInUnits user (first ++ second) old new
in_units_on user first second old middle new a b = record {
  in_units = units_on user first second old middle new a.in_units b.in_units;
  brought = subst (λ (all : List ℕ). IsBroughtFor user all old new) (sym (all_pages first second))
      (brought_on user (concat first) (concat second) old middle new a.brought b.brought);
}

-- units that need no page bring none
pub came_none : (s t : Dat) (units : ℕ) → IsBetweenUnits (lent_pool s).supply → KeepsRest s t
    → SuppliedUnits s (replicate units []) t
came_none s t units rest k = record {
  kept = keeps_frames s t k;
  brought = quiet_units (user_of s) units (lent_pool s).supply (lent_pool t).supply rest
      k.same_supply;
}

-- units bring pages one after another
pub came_on : (s t u : Dat) (before after : List (List ℕ)) → SuppliedUnits s before t
    → SuppliedUnits t after u → SuppliedUnits s (before ++ after) u
came_on s t u before after a b =
    let P : ℕ → Type 0 = λ user.
    IsBroughtInUnits user after (lent_pool t).supply (lent_pool u).supply in
    record {
      kept = keeps_frames_on s t u a.kept b.kept;
      brought = in_units_on (user_of s) before after (lent_pool s).supply (lent_pool t).supply
          (lent_pool u).supply a.brought (subst P a.kept.same_user b.brought);
    }

-- what is brought for a unit is brought by that unit
pub let_go_came : (s t u : Dat) (pages : List ℕ) → Supplied s pages t → TakesPins t u
    → SuppliedUnits s (pages ∷ []) u
let_go_came s t u pages supplied taken = record {
  kept = keeps_frames_on s t u supplied.kept taken.kept;
  brought = unit_for (user_of s) pages (lent_pool s).supply (lent_pool t).supply
      (lent_pool u).supply supplied.paged taken.supply;
}

-- ---- no pins between units

-- no frame is pinned before, or after
pub between_again : (old between new : FrameSupply) → IsBetweenUnits old
    → length between.owners ≡ length old.owners → length between.pins ≡ length old.pins
    → new ≡ unpinned between → IsBetweenUnits new
between_again old between new rest frames marks is =
    let count : length between.pins ≡ length between.owners =
    marks ∙ ap (λ (ps : List Bool). length ps) rest.idle ∙ length-replicate (length old.owners)
    false ∙ sym frames in
    let same : length new.owners ≡ length between.owners =
    ap (λ (s : FrameSupply). length s.owners) is in
    let many = rest.many in
    record {
      idle = ap (λ (s : FrameSupply). s.pins) is ∙ ap (λ (n : ℕ). replicate n false)
          (count ∙ sym same);
      many = omega (arith, same, frames, many);
    }

-- letting go leads to a state between units
pub let_go_between : (s t u : Dat) (pages : List ℕ) → IsBetweenUnits (lent_pool s).supply
    → Supplied s pages t → TakesPins t u → IsBetweenUnits (lent_pool u).supply
let_go_between s t u pages rest supplied taken =
    between_again (lent_pool s).supply (lent_pool t).supply (lent_pool u).supply rest
    supplied.paged.same_frames supplied.paged.same_marks taken.supply

-- an access between units leaves a state between units
pub between_kept : (s t : Dat) → KeepsRest s t → IsBetweenUnits (lent_pool s).supply
    → IsBetweenUnits (lent_pool t).supply
between_kept s t k rest =
    subst (λ (supply : FrameSupply). IsBetweenUnits supply) (sym k.same_supply) rest

-- ---- what is held

this_page : (user page : ℕ) → is_page user page (Some (owned user page)) ≡ true
this_page user page = grind (arith, nat_tests, common_steps)

-- a page that was brought for a unit is present until the unit ends
pub held : (s t : Dat) (pages : List ℕ) (page : ℕ) → Supplied s pages t → Contains pages page
    → is_lent_page t page ≡ true
held s t pages page supplied listed =
    let owners = (lent_pool t).supply.owners in
    let at = supplied.paged.held page listed in
    let there : is_there owners (user_of s) page ≡ true =
    found_from (is_page (user_of s) page) None 0 owners at.frame refl
    (ap (is_page (user_of s) page) at.here ∙ this_page (user_of s) page) in
    subst (λ (user : ℕ). is_there owners user page ≡ true) (sym supplied.kept.same_user) there

-- ---- no room

open_all : (n : ℕ) → unpinned_count (replicate n false) ≡ n
open_all zero = refl
open_all (suc n) = ap suc (open_all n)

open_none : (pins : List Bool) → All (λ pinned. pinned ≡ true) pins → unpinned_count pins ≡ 0
open_none [] all = refl
open_none (true ∷ pins) all = open_none pins (All-tail (λ pinned. pinned ≡ true) true pins all)
open_none (false ∷ pins) all =
    absurd (differ refl (All-head (λ pinned. pinned ≡ true) false pins all))

-- nine pages that were brought don't pin all frames
not_all_pinned : (user : ℕ) (pages : List ℕ) (old between : FrameSupply) → IsBetweenUnits old
    → IsPagedFor user pages old between → length pages ≤ 9
    → All (λ pinned. pinned ≡ true) between.pins → ⊥
not_all_pinned user pages old between rest paged few all =
    let all_open : unpinned_count old.pins ≡ length old.owners =
    ap unpinned_count rest.idle ∙ open_all (length old.owners) in
    let none_open : unpinned_count between.pins ≡ 0 = open_none between.pins all in
    let fewer = paged.fewer in
    let many = rest.many in
    omega (arith, all_open, none_open, fewer, many, few)

no_room : (user other page : ℕ) (pages : List ℕ) (old between : FrameSupply) → IsBetweenUnits old
    → IsPagedFor user pages old between → length pages ≤ 9 → IsRefused between other page
    → HasNoRoom between other page
no_room user other page pages old between rest paged few refused = elim refused.stuck [
  | inl pinned ↦ absurd (not_all_pinned user pages old between rest paged few pinned)
  | inr none ↦ record {
    absent = ap (λ (o : Option ℕ). is_some o) refused.absent;
    nowhere = ap (λ (o : Option ℕ). is_some o) none.1;
    full = refused.full;
    full_slots = none.0;
  }
]

-- a page that has no room next to nine that are pinned has none when they are unpinned
pub let_go_out : (s t u : Dat) (pages : List ℕ) (page : ℕ) → IsBetweenUnits (lent_pool s).supply
    → Supplied s pages t → length pages ≤ 9 → IsRefused (lent_pool t).supply (user_of t) page
    → TakesPins t u → HasNoRoom (lent_pool u).supply (user_of u) page
let_go_out s t u pages page rest supplied few refused taken =
    let left = (lent_pool t).supply in
    let now : HasNoRoom left (user_of t) page =
    no_room (user_of s) (user_of t) page pages (lent_pool s).supply left rest supplied.paged few
    refused in
    let same : HasNoRoom left (user_of u) page =
    subst (λ (user : ℕ). HasNoRoom left user page) (sym taken.kept.same_user) now in
    subst (λ (supply : FrameSupply). HasNoRoom supply (user_of u) page) (sym taken.supply)
    (record {
      absent = same.absent;
      nowhere = same.nowhere;
      full = same.full;
      full_slots = same.full_slots;
    })
