-- What an event keeps of frames and slots.
use Rattle.std.proofs.Common.{◌≡◌, ◌∙◌, ap, sym, subst, ℕ, zero, suc, ◌*◌, ◌≤◌, Bool, true, false, List, [], ◌∷◌}
use Rattle.std.proofs.Common.{get_or, length, length-append, replicate, refl, Option, arith, inl, inr}
use Rattle.std.specs.Prelude.{is_some}
use Rattle.std.specs.List.{concat}
use Rattle.std.proofs.lemmas.List.{length-map, length-replicate}
use Rattle.std.proofs.lemmas.List.Elements.{All-get_or}
use Rattle.s370_intr.specs.Units.{Core}
use Rattle.s370_intr.specs.Run.{AllNeeded, EachBrings}
use Rattle.s370_intr.proofs.Brings.{listed}
use Rattle.cp_frames.specs.Layout.{FrameSupply, without}
use Rattle.cp_dat.specs.Lent.{lent_pool, user_of}
use Rattle.cp_frames.specs.Paging.{IsPinned, IsRefused}
use Rattle.cp_dat.specs.Supplied.{GivesBack, HasSuch, IsBetweenUnits, IsPagedFor, unpinned}
use Rattle.cp_dat.specs.declared.dat.Dat.{Dat}
use Rattle.machine_devices.specs.Requests.{switches}
use Rattle.machine_devices.specs.Lines.{requested}
use Rattle.machine_devices.specs.Equipped.{Equipped}
use Rattle.cp_core.specs.Wants.{LineWants}
use Rattle.cp_core.proofs.Switches.{switch_wants_none}
use Rattle.cp_core.specs.Supply.{IsGivenBack, IsShort}

-- what a line keeps, whether it switches the machine or not
pub either : (b : Bool) (X : Type 0) → (b ≡ true → X) → (b ≡ false → X) → X
either true X f g = f refl
either false X f g = g refl

-- As many pins are there after a loan as before it.
pub marks_left : (old new : Dat) → GivesBack old new
    → length (lent_pool new).supply.pins ≡ length (lent_pool old).supply.pins
marks_left old new given =
    ap (λ (s : FrameSupply). length s.pins) given.supply ∙ length-replicate (length (lent_pool old).supply.pins) false

-- As many owners are there after a loan as before it.
pub lengths_left : (old new : Dat) → GivesBack old new
    → length (lent_pool new).supply.owners ≡ length (lent_pool old).supply.owners
lengths_left old new given =
    ap (λ (s : FrameSupply). length s.owners) given.supply ∙ length-map (lent_pool old).supply.owners
    (without (user_of old))

-- After a loan the pool is given back as it has to be.
pub given_back : (old new : Dat) → GivesBack old new
    → IsGivenBack (user_of old) (lent_pool old).supply (lent_pool new).supply
given_back old new given = record {
  owners = ap (λ (s : FrameSupply). s.owners) given.supply;
  slots = ap (λ (s : FrameSupply). s.slots) given.supply;
  gone = given.gone;
  gone_slots = given.gone_slots;
  order = ap (λ (s : FrameSupply). s.order) given.supply;
  page_ins = ap (λ (s : FrameSupply). s.page_ins) given.supply;
}

-- ---- how many pages come

-- nine pages at most for each unit
pub nine_each : (old : Core) (unit : ℕ) (units : List (List ℕ)) → EachBrings old unit units
    → length (concat units) ≤ 9 * length units
nine_each old unit [] each = omega arith
nine_each old unit (pages ∷ units) each =
    let rest = nine_each old (suc unit) units each.2 in omega (arith, each.1, rest, length-append pages (concat units))

-- ---- why a page was refused

none_pinned : (n frame : ℕ) → get_or (replicate n false) frame false ≡ false
none_pinned zero frame = refl
none_pinned (suc n) zero = refl
none_pinned (suc n) (suc frame) = none_pinned n frame

not_both : {b : Bool} → b ≡ false → b ≡ true → ⊥
not_both off on = cc

-- where no frame was pinned before, each that is pinned has a page that is needed
pinned_has : (user : ℕ) (pages : List ℕ) (needs : ℕ → Type 0) (old between : FrameSupply) (frame : ℕ)
    → IsBetweenUnits old → IsPagedFor user pages old between → AllNeeded needs pages → IsPinned between.pins frame
    → HasSuch user needs between.owners frame
pinned_has user pages needs old between frame rest paged all pinned = elim (paged.marked frame pinned) [
  | inl before ↦ absurd (not_both
      (ap (λ (ps : List Bool). get_or ps frame false) rest.idle ∙ none_pinned (length old.owners) frame) before)
  | inr one ↦ record { page = one.page; such = listed needs pages one.page all one.such; here = one.here }
]

short_now : (user page : ℕ) (pages : List ℕ) (needs : ℕ → Type 0) (old between : FrameSupply) → IsBetweenUnits old
    → IsPagedFor user pages old between → AllNeeded needs pages → IsRefused between user page
    → IsShort between user needs page
short_now user page pages needs old between rest paged all refused =
    let count : length between.pins ≡ length between.owners =
    paged.same_marks ∙ ap (λ (ps : List Bool). length ps) rest.idle ∙ length-replicate (length old.owners) false ∙
    sym paged.same_frames in
    record {
      absent = ap (λ (o : Option ℕ). is_some o) refused.absent;
      full = refused.full;
      stuck = elim refused.stuck [
        | inl pinned ↦ inr (λ frame within.
            pinned_has user pages needs old between frame rest paged all
            (All-get_or (λ (b : Bool). b ≡ true) between.pins frame false (omega (arith, within, count)) pinned))
        | inr none ↦ inl (none.0, ap (λ (o : Option ℕ). is_some o) none.1)
      ];
    }

-- a page is refused in an event that began with no pin only where there is no room
pub short_of : (user page : ℕ) (pages : List ℕ) (needs : ℕ → Type 0) (old between new : FrameSupply)
    → IsBetweenUnits old → IsPagedFor user pages old between → AllNeeded needs pages → new ≡ unpinned between
    → IsRefused between user page → IsShort new user needs page
short_of user page pages needs old between new rest paged all is refused =
    let now : IsShort between user needs page = short_now user page pages needs old between rest paged all refused in
    subst (λ (s : FrameSupply). IsShort s user needs page) (sym is)
    (record { absent = now.absent; full = now.full; stuck = now.stuck })

-- ---- a line

-- a line is refused a page only where there is no room: one that switches the machine needs none
pub line_short : (typed : List ℕ) (e : Equipped) (user page : ℕ) (old between new : FrameSupply) → IsBetweenUnits old
    → (switches (requested typed e) ≡ false
    → (pages : List ℕ) × IsPagedFor user pages old between × AllNeeded (LineWants typed e) pages)
    → LineWants typed e page → new ≡ unpinned between → IsRefused between user page
    → IsShort new user (LineWants typed e) page
line_short typed e user page old between new rest paged need is refused =
    either (switches (requested typed e)) _ (λ on. absurd (switch_wants_none typed e page on need))
    (λ off. (let s = paged off in short_of user page s.0 (LineWants typed e) old between new rest s.1 s.2 is
    refused))

-- pages that were given back have left, also when the pins are taken away
pub given_for : (user : ℕ) (old between new : FrameSupply) → IsGivenBack user old between → new ≡ unpinned between
    → IsGivenBack user old new
given_for user old between new given is =
    subst (λ (s : FrameSupply). IsGivenBack user old s) (sym is)
    (record {
      owners = given.owners;
      slots = given.slots;
      gone = given.gone;
      gone_slots = given.gone_slots;
      order = given.order;
      page_ins = given.page_ins;
    })
