-- One page that came into a frame.
use Rattle.std.proofs.Common.{◌≡◌, ◌≢◌, ℕ, zero, suc, ◌+◌, ◌<◌, List, [], ◌∷◌, length, get_or, Bool, false, true, inl}
use Rattle.std.proofs.Common.{inr, Option, Some, None, refl, sym, ◌∙◌, ap, arith, get_or-set_same, get_or-set_other}
use Rattle.std.specs.Prelude.{◌⊎◌, is_some, Contains}
use Rattle.std.proofs.Math.ListN.{set, length-set}
use Rattle.cp_frames.specs.declared.numbers.UserPage.{UserPage}
use Rattle.cp_frames.specs.Layout.{FrameSupply, owned, is_page, is_there, frame_of, Holds}
use Rattle.cp_frames.specs.Paging.{IsBrought, IsGivenUp, IsPagedIn, IsOpen, IsPinned, counted, unpinned_count}
use Rattle.cp_dat.specs.Supplied.{HasSuch, IsPagedFor, IsPageIn, StaysPinned, Stands}
use Rattle.cp_dat.specs.Bringing.{found_from, passing}
use Rattle.cp_frames.proofs.Layouts.{dec_eq, is_this_page, frame_found}
use Rattle.cp_frames.proofs.Tables.{page_is, page_is_at}

only : (page other : ℕ) → Contains (page ∷ []) other → page ≡ other
only page other (k, lt, e) = let first : k ≡ 0 = omega (arith, lt) in rw first at e

stands_nowhere : (o : Option ℕ) → is_some o ≡ false → o ≡ None
stands_nowhere None away = refl
stands_nowhere (Some frame) away = cc

-- where a page is, by the place that holds it
there_at : (owners : List (Option UserPage)) (user page : ℕ) → is_there owners user page ≡ true
    → (k : ℕ) × Holds owners k (owned user page)
there_at owners user page there =
    let at = passing (is_page user page) None 0 owners there in
    (at.0, page_is_at user page (get_or owners at.0 None) at.1)

-- A page that has a frame is found to be in one.
pub at_there : (owners : List (Option UserPage)) (user page k : ℕ) → Holds owners k (owned user page)
    → is_there owners user page ≡ true
at_there owners user page k holds =
    found_from (is_page user page) None 0 owners k refl (ap (is_page user page) holds ∙ is_this_page user page)

-- what the slots are given: nothing, or what the frame held takes a slot that was free or had the wanted page
record IsGiven (wanted : UserPage) (given : Option UserPage) (old new : List (Option UserPage))
    (slot : ℕ) : Type 0 where
  within : slot < length old
  set : new ≡ set old slot given
  before : (p : UserPage) → Holds old slot p → p ≡ wanted

abbrev Slotted : UserPage → Option UserPage → List (Option UserPage) → List (Option UserPage) → Type 0
Slotted wanted given old new = ((given ≡ None) × (new ≡ old)) ⊎ ((slot : ℕ) × IsGiven wanted given old new slot)

slotted : (user page : ℕ) (left : Option ℕ) (given : Option UserPage) (old new : List (Option UserPage))
    → frame_of old user page ≡ left → IsGivenUp left given old new → Slotted (owned user page) given old new
slotted user page (Some left) given old new at e =
    inr (
      left,
      record {
        within = (frame_found old user page left at).within;
        set = e;
        before = λ p h. (let is : Some (owned user page) ≡ Some p = sym (page_is old user page left at) ∙ h in cc);
      },
    )
slotted user page None None old new at e = inl (refl, e)
slotted user page None (Some given) old new at (slot, lt, free, e) =
    inr (slot, record { within = lt; set = e; before = λ p h. (let none : None ≡ Some p = sym free ∙ h in cc) })

-- a page that came into a frame and was pinned there
record IsOne (user page frame : ℕ) (old new : FrameSupply) : Type 0 where
  nowhere : frame_of old.owners user page ≡ None
  within : frame < length old.owners
  marked : frame < length old.pins
  unpinned : get_or old.pins frame false ≡ false
  owners : new.owners ≡ set old.owners frame (Some (owned user page))
  pins : new.pins ≡ set old.pins frame true
  slots : Slotted (owned user page) (get_or old.owners frame None) old.slots new.slots
  page_ins : new.page_ins ≡ counted old.page_ins

one_stays : (user page frame : ℕ) (old new : FrameSupply) → IsOne user page frame old new → (k : ℕ)
    → IsPinned old.pins k → StaysPinned old new k
one_stays user page frame old new one k pinned =
    let off : k ≢ frame = (λ e. let h : get_or old.pins k false
    ≡ false = ap (λ j. get_or old.pins j false) e ∙ one.unpinned in cc) in
    record {
      pinned = ap (λ ps. get_or ps k false) one.pins ∙ (rw get_or-set_other pinned);
      kept = ap (λ (os : List (Option UserPage)). get_or os k None) one.owners ∙ (rw get_or-set_other refl);
    }

one_here : (user page frame : ℕ) (old new : FrameSupply) → IsOne user page frame old new
    → Holds new.owners frame (owned user page)
one_here user page frame old new one =
    ap (λ (os : List (Option UserPage)). get_or os frame None) one.owners ∙ get_or-set_same old.owners frame
    (Some (owned user page)) None one.within

-- what was in the frame is in a slot
one_given : (user page frame : ℕ) (old new : FrameSupply) (u p : ℕ) → IsOne user page frame old new
    → Holds old.owners frame (owned u p) → is_there new.slots u p ≡ true
one_given user page frame old new u p one holds = elim one.slots [
  | inl none ↦ (let e : None ≡ Some (owned u p) = sym none.0 ∙ holds in cc)
  | inr (slot, given) ↦ at_there new.slots u p slot
      (ap (λ (os : List (Option UserPage)). get_or os slot None) given.set ∙ get_or-set_same old.slots slot
      (get_or old.owners frame None) None given.within ∙ holds)
]

one_kept : (user page frame : ℕ) (old new : FrameSupply) → IsOne user page frame old new → (u p : ℕ) → Stands old u p
    → Stands new u p
one_kept user page frame old new one u p (inl there) =
    let at = there_at old.owners u p there in
    elim (dec_eq at.0 frame) [
      | yes e ↦ inr (one_given user page frame old new u p one (ap (λ j. get_or old.owners j None) (sym e) ∙ at.1))
      | no n ↦ inl (at_there new.owners u p at.0
          (ap (λ (os : List (Option UserPage)). get_or os at.0 None) one.owners ∙ (rw get_or-set_other at.1)))
    ]
one_kept user page frame old new one u p (inr there) =
    let at = there_at old.slots u p there in
    elim one.slots [
      | inl none ↦ inr (ap (λ os. is_there os u p) none.1 ∙ there)
      | inr (slot, given) ↦ elim (dec_eq at.0 slot) [
        | yes e ↦ (let is : owned u p
            ≡ owned user page = given.before (owned u p) (ap (λ j. get_or old.slots j None) (sym e) ∙ at.1) in
            inl (at_there new.owners u p frame (one_here user page frame old new one ∙ ap Some (sym is))))
        | no n ↦ inr (at_there new.slots u p at.0
            (ap (λ (os : List (Option UserPage)). get_or os at.0 None) given.set ∙ (rw get_or-set_other at.1)))
      ]
    ]

one_framed : (user page frame : ℕ) (old new : FrameSupply) → IsOne user page frame old new → (u p : ℕ)
    → is_there new.owners u p ≡ true → (is_there old.owners u p ≡ true) ⊎ ((u ≡ user) × Contains (page ∷ []) p)
one_framed user page frame old new one u p there =
    let at = there_at new.owners u p there in
    let moved : get_or (set old.owners frame (Some (owned user page))) at.0 None ≡ Some (owned u p) =
    ap (λ (os : List (Option UserPage)). get_or os at.0 None) (sym one.owners) ∙ at.1 in
    elim (dec_eq at.0 frame) [
      | yes e ↦ (let here : Some (owned user page)
          ≡ Some (owned u p) = sym (get_or-set_same old.owners frame (Some (owned user page)) None one.within) ∙ ap
          (λ j. get_or (set old.owners frame (Some (owned user page))) j None) (sym e) ∙ moved in
          let is : owned u p ≡ owned user page = cc in
          inr (ap (λ (x : UserPage). x.user) is, (0, omega arith, ap (λ (x : UserPage). x.page.0) (sym is))))
      | no n ↦ inl (at_there old.owners u p at.0 (rw get_or-set_other at moved))
    ]

one_came : (user page frame : ℕ) (old new : FrameSupply) → IsOne user page frame old new → (u p : ℕ) → Stands new u p
    → Stands old u p ⊎ ((u ≡ user) × Contains (page ∷ []) p)
one_came user page frame old new one u p (inl there) =
    elim (one_framed user page frame old new one u p there) [ inl was ↦ inl (inl was) | inr now ↦ inr now ]
one_came user page frame old new one u p (inr there) =
    let at = there_at new.slots u p there in
    elim one.slots [
      | inl none ↦ inl (inr (ap (λ os. is_there os u p) (sym none.1) ∙ there))
      | inr (slot, given) ↦ (let moved : get_or (set old.slots slot (get_or old.owners frame None)) at.0 None
          ≡ Some (owned u p) = ap (λ (os : List (Option UserPage)). get_or os at.0 None) (sym given.set) ∙ at.1 in
          elim (dec_eq at.0 slot) [
            | yes e ↦ inl (inl (at_there old.owners u p frame
                (sym (get_or-set_same old.slots slot (get_or old.owners frame None) None given.within) ∙ ap
                (λ j. get_or (set old.slots slot (get_or old.owners frame None)) j None) (sym e) ∙ moved)))
            | no n ↦ inl (inr (at_there old.slots u p at.0 (rw get_or-set_other at moved)))
          ])
    ]

one_same : (user page frame : ℕ) (old new : FrameSupply) → IsOne user page frame old new
    → length new.slots ≡ length old.slots
one_same user page frame old new one = elim one.slots [
  | inl none ↦ ap length none.1
  | inr (slot, given) ↦ ap length given.set ∙ length-set old.slots slot (get_or old.owners frame None)
]

one_marked : (user page frame : ℕ) (old new : FrameSupply) → IsOne user page frame old new → (k : ℕ)
    → IsPinned new.pins k → IsPinned old.pins k ⊎ HasSuch user (Contains (page ∷ [])) new.owners k
one_marked user page frame old new one k pinned = elim (dec_eq k frame) [
  | yes e ↦ inr (record {
    page = page;
    such = (0, omega arith, refl);
    here = ap (λ j. get_or new.owners j None) e ∙ one_here user page frame old new one;
  })
  | no n ↦ (let before : get_or (set old.pins frame true) k false
      ≡ true = ap (λ ps. get_or ps k false) (sym one.pins) ∙ pinned in
      inl (rw get_or-set_other at before))
]

-- one more frame is pinned
fewer_open : (pins : List Bool) (frame : ℕ) → frame < length pins → get_or pins frame false ≡ false
    → unpinned_count pins ≡ unpinned_count (set pins frame true) + 1
fewer_open [] frame lt e = absurd (omega (arith, lt))
fewer_open (true ∷ pins) zero lt e = cc
fewer_open (false ∷ pins) zero lt e = omega arith
fewer_open (true ∷ pins) (suc frame) lt e = fewer_open pins frame (omega arith) e
fewer_open (false ∷ pins) (suc frame) lt e = let rest = fewer_open pins frame (omega arith) e in omega arith

one_fewer : (user page frame : ℕ) (old new : FrameSupply) → IsOne user page frame old new
    → unpinned_count old.pins ≡ unpinned_count new.pins + 1
one_fewer user page frame old new one = rw one.pins (fewer_open old.pins frame one.marked one.unpinned)

paged_one : (user page frame : ℕ) (old new : FrameSupply) → IsPageIn user old page new → IsOne user page frame old new
    → IsPagedFor user (page ∷ []) old new
paged_one user page frame old new step one = record {
  page_ins_are = (new, step, refl);
  same_frames = ap length one.owners ∙ length-set old.owners frame (Some (owned user page));
  same_slots = one_same user page frame old new one;
  same_marks = ap length one.pins ∙ length-set old.pins frame true;
  stays = one_stays user page frame old new one;
  held = λ p listed. (let is : page ≡ p = only page p listed in record {
    frame = frame;
    here = one_here user page frame old new one ∙ ap (λ (n : ℕ). Some (owned user n)) is;
    pinned = ap (λ ps. get_or ps frame false) one.pins ∙ get_or-set_same old.pins frame true false one.marked;
  });
  marked = one_marked user page frame old new one;
  fewer = one_fewer user page frame old new one;
  kept = one_kept user page frame old new one;
  framed = one_framed user page frame old new one;
  paged_in = one_came user page frame old new one;
  page_ins = one.page_ins;
}

is_one : (user page : ℕ) (old new : FrameSupply) (step : IsPageIn user old page new)
    → IsOne user page step.frame old new
is_one user page old new step =
    let frame = step.frame in
    let paged = step.paged in
    let is = step.pinned in
    let owners : new.owners ≡ set old.owners frame (Some (owned user page)) =
    ap (λ (s : FrameSupply). s.owners) is ∙ paged.owners in
    record {
      nowhere = step.absent;
      within = omega (
        arith,
        (frame_found new.owners user page frame step.there).within,
        ap length owners,
        length-set old.owners frame (Some (owned user page)),
      );
      marked = step.unpinned.0;
      unpinned = step.unpinned.1;
      owners = owners;
      pins = ap (λ (s : FrameSupply). s.pins) is ∙ ap (λ ps. set ps frame true) paged.pins;
      slots = slotted user page (frame_of old.slots user page) (get_or old.owners frame None) old.slots new.slots refl
          (rw (ap (λ (s : FrameSupply). s.slots) is) paged.slots);
      page_ins = ap (λ (s : FrameSupply). s.page_ins) is ∙ paged.page_ins;
    }

-- a page that came into a frame
pub one_for : (user page : ℕ) (old new : FrameSupply) → IsPageIn user old page new → IsPagedFor user (page ∷ []) old new
one_for user page old new step = paged_one user page step.frame old new step (is_one user page old new step)

-- a page that was in no frame was brought, and its frame was marked
step_of : (user page frame : ℕ) (old middle new : FrameSupply) → is_there old.owners user page ≡ false
    → IsBrought old middle user page frame → IsOpen old.pins frame → frame_of middle.owners user page ≡ Some frame →
    new ≡ record middle { pins = set middle.pins frame (is_some (get_or middle.owners frame None)) }
    → IsPageIn user old page new
step_of user page frame old middle new away brought spare there is =
    let nowhere : frame_of old.owners user page ≡ None = stands_nowhere (frame_of old.owners user page) away in
    let paged : IsPagedIn old middle user page frame = rw nowhere at brought in
    record {
      frame = frame;
      between = middle;
      absent = nowhere;
      unpinned = spare;
      paged = paged;
      pinned = is ∙ ap (λ (o : Option UserPage). record middle { pins = set middle.pins frame (is_some o) })
          (page_is middle.owners user page frame there);
      there = ap (λ (s : FrameSupply). frame_of s.owners user page) is ∙ there;
    }

-- A page that was brought and pinned is one more page-in.
pub brought_one : (user page frame : ℕ) (old middle new : FrameSupply) → is_there old.owners user page ≡ false
    → IsBrought old middle user page frame → IsOpen old.pins frame → frame_of middle.owners user page ≡ Some frame →
    new ≡ record middle { pins = set middle.pins frame (is_some (get_or middle.owners frame None)) }
    → IsPagedFor user (page ∷ []) old new
brought_one user page frame old middle new away brought spare there is =
    one_for user page old new (step_of user page frame old middle new away brought spare there is)

-- A page that was brought leaves one frame fewer for others.
pub fewer_left : (user page frame : ℕ) (old middle new : FrameSupply) → is_there old.owners user page ≡ false
    → IsBrought old middle user page frame → IsOpen old.pins frame → frame_of middle.owners user page ≡ Some frame →
    new ≡ record middle { pins = set middle.pins frame (is_some (get_or middle.owners frame None)) }
    → unpinned_count new.pins < unpinned_count old.pins
fewer_left user page frame old middle new away brought spare there is =
    let step = step_of user page frame old middle new away brought spare there is in
    omega (arith, one_fewer user page step.frame old new (is_one user page old new step))
