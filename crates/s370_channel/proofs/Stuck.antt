-- A byte whose page is absent stops the walk there.
use Rattle.std.proofs.Common.{◌≡◌, ◌≢◌, ℕ, ◌<◌, Bool, true, false, List, [], ◌∷◌, length, Some, refl, inl, inr, ap, ◌∙◌}
use Rattle.std.proofs.Common.{subst}
use Rattle.std.proofs.lemmas.Bool.{lt-ltb}
use Rattle.s370_store.specs.declared.Access.{Access}
use Rattle.s370_store.specs.Access.{Test, IsAbsent, Touches, IsVerdict}
use Rattle.s370_walk.specs.declared.parts.Position.{Position}
use Rattle.s370_walk.specs.declared.parts.NextCcw.{NextCcw}
use Rattle.s370_walk.specs.declared.parts.Ccw.{Ccw}
use Rattle.s370_walk.specs.declared.parts.Transfer.{Transfer}
use Rattle.s370_walk.specs.declared.parts.Direction.{Direction}
use Rattle.s370_walk.specs.declared.parts.Direction.TheVariants.{Gives, Takes, TakesUpTo}
use Rattle.s370_store.specs.Memory.{Memory}
use Rattle.s370_walk.specs.Hardware.{Machine, area}
use Rattle.s370_walk.specs.Walk.{Setting, judged, Good, moving, State, Moving, Fetching, Written, Reaches, Form, next}
use Rattle.s370_walk.specs.Walk.{rest, place_in}
use Rattle.s370_walk.specs.Stuck.{moves, is_skipped, place_asks}
use Rattle.s370_walk.specs.Bits.{has_bits}
use Rattle.s370_channel.specs.declared.moving.Moved.{Moved}
use Rattle.s370_channel.specs.declared.moving.Moved.TheVariants.{Done}
use Rattle.s370_channel.specs.Progress.{moved_state}
use Rattle.s370_channel.specs.Halts.{Lacks}
use Rattle.s370_store.specs.declared.Fault.{Fault}
use Rattle.s370_store.specs.declared.Fault.TheVariants.{Absent}
use Rattle.s370_store.specs.declared.Page.{Page}
use Rattle.std.specs.Prelude.{Result, Err, ⊤}
use Rattle.s370_walk.proofs.Reaching.{reach_then}

takes_all : (p : Position) (k : Direction) → k ≢ Gives → is_skipped p k ≡ false
takes_all p Gives ne = absurd (ne refl)
takes_all p Takes ne = refl
takes_all p TakesUpTo ne = refl

gives_all : (p : Position) (k : Direction) → k ≡ Gives → has_bits p.word.flags.bits 16 ≡ false → is_skipped p k ≡ false
gives_all p k e zero = rw (e, zero) refl

is_moved : {D : Type 0} (machine : Machine D) (p : Position) (d : D) → 0 < p.count → 0 < rest machine p d
    → is_skipped p p.transfer.kind ≡ false → moves machine p d ≡ true
is_moved machine p d some left all = rw (lt-ltb 0 p.count some, lt-ltb 0 (rest machine p d) left, all) refl

module _ {D : Type 0} {w : Written} {machine : Machine D} {present : ℕ → Bool} {p : Position} {m : Memory} {d : D} where
  lacks_place : {page : ℕ} → 0 < p.count → 0 < rest machine p d → is_skipped p p.transfer.kind ≡ false
      → IsAbsent (length m.bytes) present page → Touches (place_asks w p) page
      → Lacks w machine present (Moving p m d) page
  lacks_place some left all away asked = record { asked = (is_moved machine p d some left all, inl asked); away = away }

  lacks_byte : {page : ℕ} (a : ℕ) (access : Access) → 0 < p.count → 0 < rest machine p d
      → is_skipped p p.transfer.kind ≡ false → place_in w m p ≡ Some a → IsAbsent (length m.bytes) present page
      → Touches (area access a 1 ∷ []) page → Lacks w machine present (Moving p m d) page
  lacks_byte a access some left all at away asked = record {
    asked =
        (is_moved machine p d some left all, inr (rw at asked));
    away = away;
  }

-- the same in the words of the code
pub lacks_giving_place : {D : Type 0} {w : Written} {machine : Machine D} {present : ℕ
    → Bool} {p : Position} {m : Memory} {d : D} {page : ℕ} → 0 < p.count → 0 < rest machine p d
    → p.transfer.kind ≡ Gives → has_bits p.word.flags.bits 16 ≡ false
    → IsAbsent (length m.bytes) present page → Touches (place_asks w p) page
    → Lacks w machine present (Moving p m d) page
lacks_giving_place {p = p} some left gives all away asked = lacks_place some left (gives_all p _ gives all) away asked

-- A byte that the device gives needs the page that it is stored in.
pub lacks_giving_byte : {D : Type 0} {w : Written} {machine : Machine D} {present : ℕ
    → Bool} {p : Position} {m : Memory} {d : D} {page : ℕ} (a : ℕ) (access : Access) → 0 < p.count
    → 0 < rest machine p d → p.transfer.kind ≡ Gives → has_bits p.word.flags.bits 16 ≡ false
    → place_in w m p ≡ Some a → IsAbsent (length m.bytes) present page → Touches (area access a 1 ∷ []) page
    → Lacks w machine present (Moving p m d) page
lacks_giving_byte {p = p} a access some left gives all at away asked = lacks_byte a access some left
    (gives_all p _ gives all) at away asked

-- A byte that the device takes needs the page of the list that places it.
pub lacks_taking_place : {D : Type 0} {w : Written} {machine : Machine D} {present : ℕ
    → Bool} {p : Position} {m : Memory} {d : D} {page : ℕ} → 0 < p.count → 0 < rest machine p d
    → p.transfer.kind ≢ Gives
    → IsAbsent (length m.bytes) present page → Touches (place_asks w p) page
    → Lacks w machine present (Moving p m d) page
lacks_taking_place {p = p} some left takes away asked = lacks_place some left (takes_all p _ takes) away asked

-- A byte that the device takes needs the page that it is fetched from.
pub lacks_taking_byte : {D : Type 0} {w : Written} {machine : Machine D} {present : ℕ
    → Bool} {p : Position} {m : Memory} {d : D} {page : ℕ} (a : ℕ) (access : Access) → 0 < p.count
    → 0 < rest machine p d → p.transfer.kind ≢ Gives
    → place_in w m p ≡ Some a → IsAbsent (length m.bytes) present page → Touches (area access a 1 ∷ []) page
    → Lacks w machine present (Moving p m d) page
lacks_taking_byte {p = p} a access some left takes at away asked = lacks_byte a access some left
    (takes_all p _ takes) at away asked

-- what a check says of an absent page
pub absent_verdict : (size : ℕ) (keys : List ℕ) (present : ℕ → Bool) (key : ℕ) (t : Test) (r : Result ⊤ Fault)
    (f : Fault) (page : Page) → r ≡ Err f → f ≡ Absent page → IsVerdict size keys present key (t ∷ []) r
    → IsAbsent size present page.0 × Touches (t ∷ []) page.0
absent_verdict size keys present key t r f page e is v =
    let P : Result ⊤ Fault → Type 0 = λ x. IsVerdict size keys present key (t ∷ []) x in
    let both = subst P (e ∙ ap Err is) v in
    (both.1, both.2)

-- A move that is done and one step more come to the state after both.
pub reach_moved : {D : Type 0} {form : Form} {h : Setting D} {s t : State D} {moved : Moved} {p : Position} (m : Memory)
    (d : D) → moved ≡ Done p → Reaches form h s (moved_state moved m d) → next form h (Moving p m d) ≡ t
    → Reaches form h s t
reach_moved {form = form} {h = h} {s = s} m d is a e = reach_then (let P : Moved
    → Type 0 = λ x. Reaches form h s (moved_state x m d) in subst P is a) e

-- A good continuation is obeyed.
pub next_continued : {D : Type 0} (form : Form) (h : Setting D) (spot : NextCcw) (w : Ccw) (t : Transfer) (m : Memory)
    (d : D) → form.text m spot.at ≡ Some w → judged h.limit spot w ≡ Good → spot.role ≡ Some t
    → next form h (Fetching spot m d) ≡ Moving (moving spot spot.started w t) m d
next_continued form h spot w t m d text good role = rw (text, good, role) refl
