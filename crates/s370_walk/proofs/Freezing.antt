-- Walks that are frozen.
use Rattle.std.specs.Prelude.{ℕ, zero, suc, ◌≡◌, refl, Bool, true, false, not, ◌&&◌, nat_lt, if◌then◌else◌, Option}
use Rattle.std.specs.Prelude.{None, Some}
use Rattle.std.proofs.Common.{ap, ◌∙◌, arith}
use Rattle.std.proofs.lemmas.Bool.{lt-ltb}
use Rattle.s370_store.specs.declared.Fault.{Fault}
use Rattle.s370_store.specs.declared.Fault.TheVariants.{Addressing, Protection, Absent}
use Rattle.s370_walk.specs.declared.parts.Position.{Position}
use Rattle.s370_walk.specs.declared.parts.Direction.{Direction}
use Rattle.s370_walk.specs.declared.parts.Direction.TheVariants.{Gives, Takes, TakesUpTo}
use Rattle.s370_store.specs.declared.Access.TheVariants.{Fetch}
use Rattle.s370_store.specs.Memory.{Memory}
use Rattle.s370_walk.specs.Hardware.{byte_at, fault_of, area}
use Rattle.s370_walk.specs.Walk.{Form, Setting, State, Fetching, Moving, Over, Reaches, next, walk, fetched, moved}
use Rattle.s370_walk.specs.Walk.{rest, byte_moved, given_to, taken_from, taken_at, stepped, skips}
use Rattle.s370_walk.specs.Stuck.{is_skipped}
use Rattle.s370_walk.specs.Frozen.{is_seek, frozen, IsSteady}

taken_at_same : {D : Type 0} (h : Setting D) (p : Position) (a : ℕ) (load load' : ℕ → ℕ) (m : Memory) (d : D)
    (fault : Option Fault) → load a ≡ load' a → taken_at h p a load fault m d ≡ taken_at h p a load' fault m d
taken_at_same h p a load load' m d None same = ap (λ x. Moving (stepped p (Some a)) m (h.machine.took d x)) same
taken_at_same h p a load load' m d (Some Addressing) same = refl
taken_at_same h p a load load' m d (Some Protection) same = refl
taken_at_same h p a load load' m d (Some (Absent page)) same = refl

module _ {D : Type 0} (h : Setting D) (p : Position) (place place' : Option ℕ) (load load' : ℕ → ℕ) (m : Memory)
    (d : D) where
  taken_same : place ≡ place' → ((a : ℕ) → place ≡ Some a → load a ≡ load' a)
      → taken_from h p place load m d ≡ taken_from h p place' load' m d
  taken_same e loads = by_place place refl ∙ ap (λ o. taken_from h p o load' m d) e
    where
      by_place : (o : Option ℕ) → place ≡ o → taken_from h p place load m d ≡ taken_from h p place load' m d
      by_place None is = rw is refl
      by_place (Some a) is = rw is (taken_at_same h p a load load' m d (fault_of m h.key (area Fetch a 1)) (loads a is))

  -- a step moves alike where what it looks up is the same
  byte_same : (kind : Direction) → (not (is_skipped p kind) ≡ true → place ≡ place')
      → (not (is_skipped p kind) ≡ true → (a : ℕ) → place ≡ Some a → load a ≡ load' a)
      → byte_moved h p place load kind m d ≡ byte_moved h p place' load' kind m d
  byte_same Gives places loads = by_skip (skips p.word) places
    where
      by_skip : (skips : Bool) → (not skips ≡ true → place ≡ place')
          → (if skips then Moving (stepped p p.before) m (h.machine.gave d) else given_to h p place m d) ≡
          (if skips then Moving (stepped p p.before) m (h.machine.gave d) else given_to h p place' m d)
      by_skip true same = refl
      by_skip false same = ap (λ o. given_to h p o m d) (same refl)
  byte_same Takes places loads = taken_same (places refl) (loads refl)
  byte_same TakesUpTo places loads = taken_same (places refl) (loads refl)

  pub moved_same : (count left : ℕ) → (nat_lt 0 count && nat_lt 0 left && not (is_skipped p p.transfer.kind) ≡ true
      → place ≡ place') → (nat_lt 0 count && nat_lt 0 left && not (is_skipped p p.transfer.kind) ≡ true → (a : ℕ)
      → place ≡ Some a → load a ≡ load' a)
      → moved h p place load count left m d ≡ moved h p place' load' count left m d
  moved_same zero left places loads = refl
  moved_same (suc count) zero places loads = refl
  moved_same (suc count) (suc left) places loads =
      let some : nat_lt 0 (suc count) ≡ true = lt-ltb 0 (suc count) (omega arith) in
      let more : nat_lt 0 (suc left) ≡ true = lt-ltb 0 (suc left) (omega arith) in
      byte_same p.transfer.kind (λ e. places (rw (some, more, e) refl)) (λ e. loads (rw (some, more, e) refl))

module _ {D : Type 0} (form : Form) (h : Setting D) (m0 : Memory) where
  steady_step : (s : State D) → IsSteady form h m0 s → next form h s ≡ next (frozen form m0) h s
  steady_step (Fetching spot m d) steady = ap (λ t. fetched h spot t m d) (steady.words 0 spot m d refl)
  steady_step (Moving p m d) steady =
      moved_same h p (form.place m p) (form.place m0 p) (form.load m p) ((frozen form m0).load m p) m d p.count
      (rest h.machine p d)
      (λ moves_on. steady.places 0 p m d refl moves_on)
      (λ moves_on a at. by_seek a (is_seek p) (λ e. steady.seeks 0 p m d a refl moves_on e at))
    where
      by_seek : (a : ℕ) (b : Bool) → (b ≡ true → form.load m p a ≡ byte_at m0 a)
          → form.load m p a ≡ (if b then byte_at m0 a else form.load m p a)
      by_seek a true same = same refl
      by_seek a false same = refl
  steady_step (Over e m d) steady = refl

  steady_next : (s : State D) → IsSteady form h m0 s → IsSteady form h m0 (next form h s)
  steady_next s steady = record {
    words = λ n. steady.words (suc n);
    places = λ n. steady.places (suc n);
    seeks = λ n. steady.seeks (suc n);
  }

  -- The walk of a steady program is its frozen walk.
  pub frozen_walk : (s : State D) (n : ℕ) → IsSteady form h m0 s → walk form h n s ≡ walk (frozen form m0) h n s
  frozen_walk s zero steady = refl
  frozen_walk s (suc n) steady =
      frozen_walk (next form h s) n (steady_next s steady) ∙ ap (walk (frozen form m0) h n) (steady_step s steady)

  -- A steady program comes to the same end in either reading.
  pub steady_ends : (s t : State D) → IsSteady form h m0 s → Reaches (frozen form m0) h s t → Reaches form h s t
  steady_ends s t steady r = record { steps = r.steps; comes = frozen_walk s r.steps steady ∙ r.comes }
