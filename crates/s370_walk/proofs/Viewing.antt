-- A walk over what is seen of a device goes as the walk over the device.
use Rattle.std.specs.Prelude.{nat_lt, ℕ, zero, suc, ◌==◌, ◌≡◌, Bool, true, false, not, ◌&&◌, if◌then◌else◌, Option}
use Rattle.std.specs.Prelude.{None, Some, refl}
use Rattle.std.proofs.Common.{ap, ◌∙◌, sym, subst}
use Rattle.s370_store.specs.declared.Fault.{Fault}
use Rattle.s370_store.specs.declared.Fault.TheVariants.{Addressing, Protection, Absent}
use Rattle.s370_walk.specs.declared.bits.ChannelStatus.{ChannelStatus}
use Rattle.s370_walk.specs.declared.parts.Answer.{Answer}
use Rattle.s370_walk.specs.declared.parts.Answer.TheVariants as answers
use Rattle.s370_walk.specs.declared.parts.Ending.{Ending}
use Rattle.s370_walk.specs.declared.parts.Direction.{Direction}
use Rattle.s370_walk.specs.declared.parts.Direction.TheVariants.{Gives, Takes, TakesUpTo}
use Rattle.s370_walk.specs.declared.parts.Progress.{Progress}
use Rattle.s370_walk.specs.declared.parts.Progress.TheVariants.{At, Ended}
use Rattle.s370_walk.specs.declared.parts.Transfer.{Transfer}
use Rattle.s370_walk.specs.declared.parts.NextCcw.{NextCcw}
use Rattle.s370_walk.specs.declared.parts.Position.{Position}
use Rattle.s370_walk.specs.declared.parts.Ccw.{Ccw}
use Rattle.s370_store.specs.Memory.{Memory}
use Rattle.s370_walk.specs.Hardware.{Machine, area, fault_of}
use Rattle.s370_store.specs.declared.Access.TheVariants.{Fetch, Store}
use Rattle.s370_walk.specs.Walk.{Written, live, stepped, Form, Setting, State, Fetching, Moving, Over, Verdict, Bad}
use Rattle.s370_walk.specs.Walk.{Jump, Good, Reaches, next, walk, fetched, obeyed, entered, answered, judged, fails}
use Rattle.s370_walk.specs.Walk.{stops, closed, closes, state_of, moved, counted_out, rest, tells_length, chains_data}
use Rattle.s370_walk.specs.Walk.{order_of, byte_moved, given_to, given_at, taken_from, taken_at, skips}
use Rattle.s370_walk.specs.Stuck.{IsAsked, is_skipped}
use Rattle.s370_walk.specs.Viewed.{IsViewed, setting_for, viewed}

module _ {D E : Type 0} (form : Form) (h : Setting D) (small : Machine E) (view : D → E)
    (same : IsViewed h.machine small view) where
  state_viewed : (p : Progress) (m : Memory) (d : D) → state_of p m (view d) ≡ viewed view (state_of p m d)
  state_viewed (At spot) m d = refl
  state_viewed (Ended e) m d = refl

  closes_viewed : (wrong : Bool) (p : Position) (m : Memory) (d : D)
      → closes (setting_for small h) wrong p m (view d) ≡ viewed view (closes h wrong p m d)
  closes_viewed wrong p m d = rw (same.status d, same.finished d)
      (state_viewed (closed h.prefix wrong (h.machine.status d) p.at p.started p.word p.count) m (h.machine.finished d))

  stops_viewed : (at : ℕ) (check : ChannelStatus) (count : ℕ) (m : Memory) (d : D)
      → stops (setting_for small h) at check count m (view d) ≡ viewed view (stops h at check count m d)
  stops_viewed at check count m d = rw (same.status d, same.finished d) refl

  fails_viewed : (role : Option Transfer) (at : ℕ) (m : Memory) (d : D)
      → fails (setting_for small h) role at m (view d) ≡ viewed view (fails h role at m d)
  fails_viewed None at m d = refl
  fails_viewed (Some t) at m d = rw (same.status d, same.finished d) refl

  answered_viewed : (spot : NextCcw) (w : Ccw) (answer : Answer) (m : Memory) (d : D)
      → answered h.prefix spot w answer m (view d) ≡ viewed view (answered h.prefix spot w answer m d)
  answered_viewed spot w (answers.Refused status) m d = refl
  answered_viewed spot w answers.Immediate m d = state_viewed _ m d
  answered_viewed spot w (answers.Input k) m d = refl
  answered_viewed spot w (answers.Output k) m d = refl
  answered_viewed spot w (answers.OutputUpTo k) m d = refl

  pub entered_viewed : (spot : NextCcw) (w : Ccw) (role : Option Transfer) (m : Memory) (d : D)
      → entered (setting_for small h) spot w role m (view d) ≡ viewed view (entered h spot w role m d)
  entered_viewed spot w None m d =
      rw (same.answer d (order_of h.prefix spot w), same.started d (order_of h.prefix spot w))
      (answered_viewed spot w (h.machine.answer d (order_of h.prefix spot w)) m
      (h.machine.started d (order_of h.prefix spot w)))
  entered_viewed spot w (Some t) m d = refl

  obeyed_viewed : (spot : NextCcw) (w : Ccw) (verdict : Verdict) (m : Memory) (d : D)
      → obeyed (setting_for small h) spot w verdict m (view d) ≡ viewed view (obeyed h spot w verdict m d)
  obeyed_viewed spot w Bad m d = fails_viewed spot.role spot.at m d
  obeyed_viewed spot w Jump m d = refl
  obeyed_viewed spot w Good m d = entered_viewed spot w spot.role m d

  fetched_viewed : (spot : NextCcw) (found : Option Ccw) (m : Memory) (d : D)
      → fetched (setting_for small h) spot found m (view d) ≡ viewed view (fetched h spot found m d)
  fetched_viewed spot None m d = fails_viewed spot.role spot.at m d
  fetched_viewed spot (Some w) m d = obeyed_viewed spot w (judged h.limit spot w) m d

  given_viewed : (p : Position) (a : ℕ) (fault : Option Fault) (m : Memory) (d : D)
      → given_at (setting_for small h) p a fault m (view d) ≡ viewed view (given_at h p a fault m d)
  given_viewed p a None m d = rw (same.gives d, same.gave d) refl
  given_viewed p a (Some Protection) m d = stops_viewed p.at _ p.count m d
  given_viewed p a (Some Addressing) m d = stops_viewed p.at _ p.count m d
  given_viewed p a (Some (Absent page)) m d = stops_viewed p.at _ p.count m d

  given_to_viewed : (p : Position) (place : Option ℕ) (m : Memory) (d : D)
      → given_to (setting_for small h) p place m (view d) ≡ viewed view (given_to h p place m d)
  given_to_viewed p None m d = stops_viewed p.at _ p.count m d
  given_to_viewed p (Some a) m d = given_viewed p a (fault_of m h.key (area Store a 1)) m d

  taken_viewed : (p : Position) (a : ℕ) (load : ℕ → ℕ) (fault : Option Fault) (m : Memory) (d : D)
      → taken_at (setting_for small h) p a load fault m (view d) ≡ viewed view (taken_at h p a load fault m d)
  taken_viewed p a load None m d = rw (same.took d (load a)) refl
  taken_viewed p a load (Some Protection) m d = stops_viewed p.at _ p.count m d
  taken_viewed p a load (Some Addressing) m d = stops_viewed p.at _ p.count m d
  taken_viewed p a load (Some (Absent page)) m d = stops_viewed p.at _ p.count m d

  taken_from_viewed : (p : Position) (place : Option ℕ) (load : ℕ → ℕ) (m : Memory) (d : D)
      → taken_from (setting_for small h) p place load m (view d) ≡ viewed view (taken_from h p place load m d)
  taken_from_viewed p None load m d = stops_viewed p.at _ p.count m d
  taken_from_viewed p (Some a) load m d = taken_viewed p a load (fault_of m h.key (area Fetch a 1)) m d

  byte_viewed : (p : Position) (place : Option ℕ) (load : ℕ → ℕ) (kind : Direction) (m : Memory) (d : D)
      → byte_moved (setting_for small h) p place load kind m (view d) ≡ viewed view (byte_moved h p place load kind m d)
  byte_viewed p place load Gives m d = by_skip (skips p.word)
    where
      by_skip : (skipped : Bool) → (if skipped then Moving (stepped p p.before) m (small.gave (view d)) else given_to
          (setting_for small h) p place m (view d)) ≡ viewed view
          (if skipped then Moving (stepped p p.before) m (h.machine.gave d) else given_to h p place m d)
      by_skip true = rw (same.gave d) refl
      by_skip false = given_to_viewed p place m d
  byte_viewed p place load Takes m d = taken_from_viewed p place load m d
  byte_viewed p place load TakesUpTo m d = taken_from_viewed p place load m d

  counted_viewed : (p : Position) (left : ℕ) (m : Memory) (d : D)
      → counted_out (setting_for small h) p left m (view d) ≡ viewed view (counted_out h p left m d)
  counted_viewed p left m d = by_chain (chains_data p.word)
    where
      by_chain : (chains : Bool) → (if chains then Fetching (record {
        at = p.word.next;
        role = Some p.transfer;
        jumped = false;
        started = p.started;
      }) m (view d) else closes (setting_for small h)
          (not (left == 0) && tells_length p) p m (view d))
          ≡ viewed view (if chains then Fetching (record {
            at = p.word.next;
            role = Some p.transfer;
            jumped = false;
            started = p.started;
          }) m d else closes h (not (left == 0) && tells_length p) p m d)
      by_chain true = refl
      by_chain false = closes_viewed _ p m d

  moved_viewed : (p : Position) (place : Option ℕ) (load : ℕ → ℕ) (count left : ℕ) (m : Memory) (d : D)
      → moved (setting_for small h) p place load count left m (view d) ≡ viewed view
      (moved h p place load count left m d)
  moved_viewed p place load zero left m d = counted_viewed p left m d
  moved_viewed p place load (suc count) zero m d = closes_viewed (tells_length p) p m d
  moved_viewed p place load (suc count) (suc left) m d = byte_viewed p place load p.transfer.kind m d

  rest_viewed : (p : Position) (d : D) → rest small p (view d) ≡ rest h.machine p d
  rest_viewed p d = ap (λ (z : Bool). if z then 0 else p.transfer.left) (same.done d)

  next_viewed : (s : State D) → next form (setting_for small h) (viewed view s) ≡ viewed view (next form h s)
  next_viewed (Fetching spot m d) = fetched_viewed spot (form.text m spot.at) m d
  next_viewed (Moving p m d) = rw (rest_viewed p d) (moved_viewed p (form.place m p) (form.load m p) p.count
      (rest h.machine p d) m d)
  next_viewed (Over e m d) = refl

  pub walk_viewed : (n : ℕ) (s : State D) → walk form (setting_for small h) n (viewed view s) ≡ viewed view
      (walk form h n s)
  walk_viewed zero s = refl
  walk_viewed (suc n) s = ap (walk form (setting_for small h) n) (next_viewed s) ∙ walk_viewed n (next form h s)

  -- so what one comes to, the other does
  pub reaches_viewed : (s t : State D) → Reaches form h s t → Reaches form (setting_for small h) (viewed view s)
      (viewed view t)
  reaches_viewed s t r = record { steps = r.steps; comes = walk_viewed r.steps s ∙ ap (viewed view) r.comes }

  -- and back: what the view ends with, the device ends with
  over_back : (t : State D) (e : Ending) (m : Memory) (x : E) → viewed view t ≡ Over e m x → (d : D) × (view d ≡ x)
      × (t ≡ Over e m d)
  over_back (Fetching spot n d) e m x is = absurd cc
  over_back (Moving p n d) e m x is = absurd cc
  over_back (Over f n d) e m x is = (d, cc, cc)

  pub ends_back : (s : State D) (e : Ending) (m : Memory) (x : E)
      → Reaches form (setting_for small h) (viewed view s) (Over e m x) → (d : D) × (view d ≡ x)
      × Reaches form h s (Over e m d)
  ends_back s e m x r =
      let back = over_back (walk form h r.steps s) e m x (sym (walk_viewed r.steps s) ∙ r.comes) in
      (back.0, back.1, record { steps = r.steps; comes = back.2 })

-- and it asks for the same pages
module _ {D E : Type 0} (w : Written) (h : Setting D) (small : Machine E) (view : D → E)
    (same : IsViewed h.machine small view) where
  asked_same : (t : State D) (page : ℕ) → IsAsked w small (viewed view t) page → IsAsked w h.machine t page
  asked_same (Fetching spot m d) page asked = asked
  asked_same (Moving p m d) page asked =
      let left : rest small p (view d) ≡ rest h.machine p d = rest_viewed (live w) h small view same p d in
      (ap (λ k. nat_lt 0 p.count && nat_lt 0 k && not (is_skipped p p.transfer.kind)) (sym left) ∙ asked.0, asked.1)
  asked_same (Over e m d) page asked = asked

  pub asked_back : (s : State D) (t : State E) (page : ℕ) → Reaches (live w) (setting_for small h) (viewed view s) t
      → IsAsked w small t page → (u : State D) × Reaches (live w) h s u × IsAsked w h.machine u page
  asked_back s t page r asked =
      let there = walk (live w) h r.steps s in
      let here : t ≡ viewed view there = sym r.comes ∙ walk_viewed (live w) h small view same r.steps s in
      let P : State E → Type 0 = λ x. IsAsked w small x page in
      (there, record { steps = r.steps; comes = refl }, asked_same there page (subst P here asked))
