-- Two devices of which one is seen as the other walk alike.
use Rattle.std.proofs.Common.{◌≡◌, ℕ, zero, suc, ◌+◌, ◌-◌, Bool, true, false, Option, Some, None, refl, sym, ◌∙◌, ap}
use Rattle.std.proofs.Common.{List}
use Rattle.std.specs.Prelude.{if◌then◌else◌, nat_lt, not, ◌==◌, ◌&&◌}
use Rattle.s370_store.specs.Access.{IsAbsent}
use Rattle.s370_walk.specs.Stuck.{IsAsked, IsStuck, is_skipped, moves, size_in}
use Rattle.s370_channel.specs.Supplied.{IsTouched}
use Rattle.s370_store.specs.declared.Fault.{Fault}
use Rattle.s370_store.specs.declared.Fault.TheVariants.{Addressing, Protection, Absent}
use Rattle.s370_walk.specs.declared.bits.UnitStatus.{UnitStatus}
use Rattle.s370_walk.specs.declared.bits.ChannelStatus.{ChannelStatus}
use Rattle.s370_walk.specs.declared.parts.Order.{Order}
use Rattle.s370_walk.specs.declared.parts.Answer.{Answer}
use Rattle.s370_walk.specs.declared.parts.Answer.TheVariants as answers
use Rattle.s370_walk.specs.declared.parts.Direction.{Direction}
use Rattle.s370_walk.specs.declared.parts.Direction.TheVariants.{Gives, Takes, TakesUpTo}
use Rattle.s370_walk.specs.declared.parts.Transfer.{Transfer}
use Rattle.s370_walk.specs.declared.parts.NextCcw.{NextCcw}
use Rattle.s370_walk.specs.declared.parts.Position.{Position}
use Rattle.s370_walk.specs.declared.parts.Progress.{Progress}
use Rattle.s370_walk.specs.declared.parts.Progress.TheVariants.{At, Ended}
use Rattle.s370_walk.specs.declared.parts.Ccw.{Ccw}
use Rattle.s370_store.specs.Memory.{Memory}
use Rattle.s370_walk.specs.Hardware.{Machine, put_byte, fault_of, area}
use Rattle.s370_store.specs.declared.Access.TheVariants.{Fetch, Store}
use Rattle.s370_walk.specs.Walk.{Form, Setting, State, Fetching, Moving, Over, Verdict, Bad, Jump, Good, ending}
use Rattle.s370_walk.specs.Walk.{state_of, stops, fails, closed, closes, answered, order_of, entered, obeyed, fetched}
use Rattle.s370_walk.specs.Walk.{judged, stepped, given_at, given_to, taken_at, taken_from, byte_moved, skips}
use Rattle.s370_walk.specs.Walk.{chains_data, tells_length, counted_out, moved, rest, next, walk, moving, transfer_of}
use Rattle.s370_walk.specs.Walk.{Written, Reaches, live}

-- the one, as it is seen, does what the other does
pub record IsSeen {D E : Type 0} (m : Machine D) (n : Machine E) (seen : D → E) : Type 0 where
  pub answer : (d : D) (order : Order) → n.answer (seen d) order ≡ m.answer d order
  pub started : (d : D) (order : Order) → n.started (seen d) order ≡ seen (m.started d order)
  pub done : (d : D) → n.done (seen d) ≡ m.done d
  pub gives : (d : D) → n.gives (seen d) ≡ m.gives d
  pub gave : (d : D) → n.gave (seen d) ≡ seen (m.gave d)
  pub took : (d : D) (byte : ℕ) → n.took (seen d) byte ≡ seen (m.took d byte)
  pub status : (d : D) → n.status (seen d) ≡ m.status d
  pub finished : (d : D) → n.finished (seen d) ≡ seen (m.finished d)

module _ {D E : Type 0} (m : Machine D) (n : Machine E) (seen : D → E) (is : IsSeen m n seen)
    (key limit prefix : ℕ) where
  abbrev pub one : Setting D
  one = record { machine = m; key = key; limit = limit; prefix = prefix }

  abbrev pub other : Setting E
  other = record { machine = n; key = key; limit = limit; prefix = prefix }

  abbrev pub state_seen : State D → State E
  state_seen (Fetching spot s d) = Fetching spot s (seen d)
  state_seen (Moving p s d) = Moving p s (seen d)
  state_seen (Over e s d) = Over e s (seen d)

  stops_alike : (at : ℕ) (check : ChannelStatus) (count : ℕ) (s : Memory) (d : D)
      → stops other at check count s (seen d) ≡ state_seen (stops one at check count s d)
  stops_alike at check count s d = rw (is.status d, is.finished d) refl

  fails_alike : (role : Option Transfer) (at : ℕ) (s : Memory) (d : D)
      → fails other role at s (seen d) ≡ state_seen (fails one role at s d)
  fails_alike None at s d = refl
  fails_alike (Some transfer) at s d = rw (is.status d, is.finished d) refl

  state_alike : (p : Progress) (s : Memory) (d : D) → state_of p s (seen d) ≡ state_seen (state_of p s d)
  state_alike (At spot) s d = refl
  state_alike (Ended e) s d = refl

  closes_alike : (wrong : Bool) (p : Position) (s : Memory) (d : D)
      → closes other wrong p s (seen d) ≡ state_seen (closes one wrong p s d)
  closes_alike wrong p s d =
      rw (is.status d, is.finished d)
      (state_alike (closed prefix wrong (m.status d) p.at p.started p.word p.count) s (m.finished d))

  answered_alike : (spot : NextCcw) (w : Ccw) (a : Answer) (s : Memory) (d : D)
      → answered prefix spot w a s (seen d) ≡ state_seen (answered prefix spot w a s d)
  answered_alike spot w (answers.Refused status) s d = refl
  answered_alike spot w answers.Immediate s d = state_alike _ s d
  answered_alike spot w (answers.Input count) s d = refl
  answered_alike spot w (answers.Output count) s d = refl
  answered_alike spot w (answers.OutputUpTo count) s d = refl

  pub entered_alike : (spot : NextCcw) (w : Ccw) (role : Option Transfer) (s : Memory) (d : D)
      → entered other spot w role s (seen d) ≡ state_seen (entered one spot w role s d)
  entered_alike spot w None s d =
      rw (is.answer d (order_of prefix spot w), is.started d (order_of prefix spot w))
      (answered_alike spot w (m.answer d (order_of prefix spot w)) s (m.started d (order_of prefix spot w)))
  entered_alike spot w (Some transfer) s d = refl

  obeyed_alike : (spot : NextCcw) (w : Ccw) (verdict : Verdict) (s : Memory) (d : D)
      → obeyed other spot w verdict s (seen d) ≡ state_seen (obeyed one spot w verdict s d)
  obeyed_alike spot w Bad s d = fails_alike spot.role spot.at s d
  obeyed_alike spot w Jump s d = refl
  obeyed_alike spot w Good s d = entered_alike spot w spot.role s d

  fetched_alike : (spot : NextCcw) (w : Option Ccw) (s : Memory) (d : D)
      → fetched other spot w s (seen d) ≡ state_seen (fetched one spot w s d)
  fetched_alike spot None s d = fails_alike spot.role spot.at s d
  fetched_alike spot (Some w) s d = obeyed_alike spot w (judged limit spot w) s d

  given_at_alike : (p : Position) (a : ℕ) (fault : Option Fault) (s : Memory) (d : D)
      → given_at other p a fault s (seen d) ≡ state_seen (given_at one p a fault s d)
  given_at_alike p a None s d = rw (is.gives d, is.gave d) refl
  given_at_alike p a (Some Protection) s d = stops_alike _ _ _ s d
  given_at_alike p a (Some Addressing) s d = stops_alike _ _ _ s d
  given_at_alike p a (Some (Absent page)) s d = stops_alike _ _ _ s d

  given_to_alike : (p : Position) (place : Option ℕ) (s : Memory) (d : D)
      → given_to other p place s (seen d) ≡ state_seen (given_to one p place s d)
  given_to_alike p None s d = stops_alike _ _ _ s d
  given_to_alike p (Some a) s d = given_at_alike p a (fault_of s key (area Store a 1)) s d

  taken_at_alike : (p : Position) (a : ℕ) (load : ℕ → ℕ) (fault : Option Fault) (s : Memory) (d : D)
      → taken_at other p a load fault s (seen d) ≡ state_seen (taken_at one p a load fault s d)
  taken_at_alike p a load None s d = rw (is.took d (load a)) refl
  taken_at_alike p a load (Some Protection) s d = stops_alike _ _ _ s d
  taken_at_alike p a load (Some Addressing) s d = stops_alike _ _ _ s d
  taken_at_alike p a load (Some (Absent page)) s d = stops_alike _ _ _ s d

  taken_from_alike : (p : Position) (place : Option ℕ) (load : ℕ → ℕ) (s : Memory) (d : D)
      → taken_from other p place load s (seen d) ≡ state_seen (taken_from one p place load s d)
  taken_from_alike p None load s d = stops_alike _ _ _ s d
  taken_from_alike p (Some a) load s d = taken_at_alike p a load (fault_of s key (area Fetch a 1)) s d

  skipped_alike : (b : Bool) (p : Position) (place : Option ℕ) (s : Memory) (d : D)
      → (if b then Moving (stepped p p.before) s (n.gave (seen d)) else given_to other p place s (seen d))
      ≡ state_seen (if b then Moving (stepped p p.before) s (m.gave d) else given_to one p place s d)
  skipped_alike true p place s d = rw (is.gave d) refl
  skipped_alike false p place s d = given_to_alike p place s d

  byte_alike : (p : Position) (place : Option ℕ) (load : ℕ → ℕ) (kind : Direction) (s : Memory) (d : D)
      → byte_moved other p place load kind s (seen d) ≡ state_seen (byte_moved one p place load kind s d)
  byte_alike p place load Gives s d = skipped_alike (skips p.word) p place s d
  byte_alike p place load Takes s d = taken_from_alike p place load s d
  byte_alike p place load TakesUpTo s d = taken_from_alike p place load s d

  chained_alike : (b wrong : Bool) (spot : NextCcw) (p : Position) (s : Memory) (d : D)
      → (if b then Fetching spot s (seen d) else closes other wrong p s (seen d))
      ≡ state_seen (if b then Fetching spot s d else closes one wrong p s d)
  chained_alike true wrong spot p s d = refl
  chained_alike false wrong spot p s d = closes_alike wrong p s d

  counted_alike : (p : Position) (left : ℕ) (s : Memory) (d : D)
      → counted_out other p left s (seen d) ≡ state_seen (counted_out one p left s d)
  counted_alike p left s d = chained_alike (chains_data p.word) _ _ p s d

  moved_alike : (p : Position) (place : Option ℕ) (load : ℕ → ℕ) (count left : ℕ) (s : Memory) (d : D)
      → moved other p place load count left s (seen d) ≡ state_seen (moved one p place load count left s d)
  moved_alike p place load zero left s d = counted_alike p left s d
  moved_alike p place load (suc count) zero s d = closes_alike (tells_length p) p s d
  moved_alike p place load (suc count) (suc left) s d = byte_alike p place load p.transfer.kind s d

  rest_alike : (p : Position) (d : D) → rest n p (seen d) ≡ rest m p d
  rest_alike p d = ap (λ (b : Bool). if b then 0 else p.transfer.left) (is.done d)

  next_alike : (form : Form) (s : State D) → next form other (state_seen s) ≡ state_seen (next form one s)
  next_alike form (Fetching spot s d) = fetched_alike spot (form.text s spot.at) s d
  next_alike form (Moving p s d) =
      ap (λ (left : ℕ). moved other p (form.place s p) (form.load s p) p.count left s (seen d)) (rest_alike p d)
      ∙ moved_alike p (form.place s p) (form.load s p) p.count (rest m p d) s d
  next_alike form (Over e s d) = refl

  pub walk_alike : (form : Form) (steps : ℕ) (s : State D)
      → walk form other steps (state_seen s) ≡ state_seen (walk form one steps s)
  walk_alike form zero s = refl
  walk_alike form (suc steps) s =
      ap (λ (t : State E). walk form other steps t) (next_alike form s) ∙ walk_alike form steps (next form one s)

  moves_alike : (p : Position) (d : D) → moves n p (seen d) ≡ moves m p d
  moves_alike p d = ap (λ (left : ℕ). nat_lt 0 p.count && nat_lt 0 left && not (is_skipped p p.transfer.kind))
      (rest_alike p d)

  asked_alike : (w : Written) (s : State D) (page : ℕ) → IsAsked w m s page → IsAsked w n (state_seen s) page
  asked_alike w (Fetching spot s d) page h = h
  asked_alike w (Moving p s d) page h = (moves_alike p d ∙ h.0, h.1)
  asked_alike w (Over e s d) page h = h

  away_alike : (present : ℕ → Bool) (s : State D) (page : ℕ) → IsAbsent (size_in s) present page
      → IsAbsent (size_in (state_seen s)) present page
  away_alike present (Fetching spot s d) page h = h
  away_alike present (Moving p s d) page h = h
  away_alike present (Over e s d) page h = h

  pub stuck_alike : (w : Written) (present : ℕ → Bool) (from : State D) (page : ℕ) → IsStuck w one present from page
      → IsStuck w other present (state_seen from) page
  stuck_alike w present from page h = record {
    state = state_seen h.state;
    comes = record {
      steps = h.comes.steps;
      comes = walk_alike (live w) h.comes.steps from ∙ ap state_seen h.comes.comes;
    };
    asked = asked_alike w h.state page h.asked;
    away = away_alike present h.state page h.away;
  }

  pub touched_alike : (w : Written) (from : State D) (page : ℕ) → IsTouched w one from page
      → IsTouched w other (state_seen from) page
  touched_alike w from page h = record {
    state = state_seen h.state;
    comes = record {
      steps = h.comes.steps;
      comes = walk_alike (live w) h.comes.steps from ∙ ap state_seen h.comes.comes;
    };
    asked = asked_alike w h.state page h.asked;
  }

-- ---- what no step of a device changes stays

-- A part of a device that no step changes.
pub record IsKept {D X : Type 0} (m : Machine D) (p : D → X) : Type 0 where
  pub started : (d : D) (order : Order) → p (m.started d order) ≡ p d
  pub gave : (d : D) → p (m.gave d) ≡ p d
  pub took : (d : D) (byte : ℕ) → p (m.took d byte) ≡ p d
  pub finished : (d : D) → p (m.finished d) ≡ p d

module _ {D X : Type 0} (h : Setting D) (p : D → X) (is : IsKept h.machine p) where
  abbrev pub kept_in : State D → X
  kept_in (Fetching spot s d) = p d
  kept_in (Moving q s d) = p d
  kept_in (Over e s d) = p d

  fails_kept : (role : Option Transfer) (at : ℕ) (s : Memory) (d : D) → kept_in (fails h role at s d) ≡ p d
  fails_kept None at s d = refl
  fails_kept (Some transfer) at s d = is.finished d

  state_kept : (q : Progress) (s : Memory) (d : D) → kept_in (state_of q s d) ≡ p d
  state_kept (At spot) s d = refl
  state_kept (Ended e) s d = refl

  closes_kept : (wrong : Bool) (q : Position) (s : Memory) (d : D) → kept_in (closes h wrong q s d) ≡ p d
  closes_kept wrong q s d =
      state_kept (closed h.prefix wrong (h.machine.status d) q.at q.started q.word q.count) s (h.machine.finished d) ∙
      is.finished d

  answered_kept : (spot : NextCcw) (w : Ccw) (a : Answer) (s : Memory) (d : D)
      → kept_in (answered h.prefix spot w a s d) ≡ p d
  answered_kept spot w (answers.Refused status) s d = refl
  answered_kept spot w answers.Immediate s d = state_kept _ s d
  answered_kept spot w (answers.Input count) s d = refl
  answered_kept spot w (answers.Output count) s d = refl
  answered_kept spot w (answers.OutputUpTo count) s d = refl

  pub entered_kept : (spot : NextCcw) (w : Ccw) (role : Option Transfer) (s : Memory) (d : D)
      → kept_in (entered h spot w role s d) ≡ p d
  entered_kept spot w None s d =
      answered_kept spot w (h.machine.answer d (order_of h.prefix spot w)) s
      (h.machine.started d (order_of h.prefix spot w)) ∙ is.started d (order_of h.prefix spot w)
  entered_kept spot w (Some transfer) s d = refl

  obeyed_kept : (spot : NextCcw) (w : Ccw) (verdict : Verdict) (s : Memory) (d : D)
      → kept_in (obeyed h spot w verdict s d) ≡ p d
  obeyed_kept spot w Bad s d = fails_kept spot.role spot.at s d
  obeyed_kept spot w Jump s d = refl
  obeyed_kept spot w Good s d = entered_kept spot w spot.role s d

  fetched_kept : (spot : NextCcw) (w : Option Ccw) (s : Memory) (d : D) → kept_in (fetched h spot w s d) ≡ p d
  fetched_kept spot None s d = fails_kept spot.role spot.at s d
  fetched_kept spot (Some w) s d = obeyed_kept spot w (judged h.limit spot w) s d

  given_at_kept : (q : Position) (a : ℕ) (fault : Option Fault) (s : Memory) (d : D)
      → kept_in (given_at h q a fault s d) ≡ p d
  given_at_kept q a None s d = is.gave d
  given_at_kept q a (Some Protection) s d = is.finished d
  given_at_kept q a (Some Addressing) s d = is.finished d
  given_at_kept q a (Some (Absent page)) s d = is.finished d

  given_to_kept : (q : Position) (place : Option ℕ) (s : Memory) (d : D) → kept_in (given_to h q place s d) ≡ p d
  given_to_kept q None s d = is.finished d
  given_to_kept q (Some a) s d = given_at_kept q a (fault_of s h.key (area Store a 1)) s d

  taken_at_kept : (q : Position) (a : ℕ) (load : ℕ → ℕ) (fault : Option Fault) (s : Memory) (d : D)
      → kept_in (taken_at h q a load fault s d) ≡ p d
  taken_at_kept q a load None s d = is.took d (load a)
  taken_at_kept q a load (Some Protection) s d = is.finished d
  taken_at_kept q a load (Some Addressing) s d = is.finished d
  taken_at_kept q a load (Some (Absent page)) s d = is.finished d

  taken_from_kept : (q : Position) (place : Option ℕ) (load : ℕ → ℕ) (s : Memory) (d : D)
      → kept_in (taken_from h q place load s d) ≡ p d
  taken_from_kept q None load s d = is.finished d
  taken_from_kept q (Some a) load s d = taken_at_kept q a load (fault_of s h.key (area Fetch a 1)) s d

  skipped_kept : (b : Bool) (q : Position) (place : Option ℕ) (s : Memory) (d : D)
      → kept_in (if b then Moving (stepped q q.before) s (h.machine.gave d) else given_to h q place s d) ≡ p d
  skipped_kept true q place s d = is.gave d
  skipped_kept false q place s d = given_to_kept q place s d

  byte_kept : (q : Position) (place : Option ℕ) (load : ℕ → ℕ) (kind : Direction) (s : Memory) (d : D)
      → kept_in (byte_moved h q place load kind s d) ≡ p d
  byte_kept q place load Gives s d = skipped_kept (skips q.word) q place s d
  byte_kept q place load Takes s d = taken_from_kept q place load s d
  byte_kept q place load TakesUpTo s d = taken_from_kept q place load s d

  chained_kept : (b wrong : Bool) (spot : NextCcw) (q : Position) (s : Memory) (d : D)
      → kept_in (if b then Fetching spot s d else closes h wrong q s d) ≡ p d
  chained_kept true wrong spot q s d = refl
  chained_kept false wrong spot q s d = closes_kept wrong q s d

  moved_kept : (q : Position) (place : Option ℕ) (load : ℕ → ℕ) (count left : ℕ) (s : Memory) (d : D)
      → kept_in (moved h q place load count left s d) ≡ p d
  moved_kept q place load zero left s d = chained_kept (chains_data q.word) _ _ q s d
  moved_kept q place load (suc count) zero s d = closes_kept (tells_length q) q s d
  moved_kept q place load (suc count) (suc left) s d = byte_kept q place load q.transfer.kind s d

  next_kept : (form : Form) (s : State D) → kept_in (next form h s) ≡ kept_in s
  next_kept form (Fetching spot s d) = fetched_kept spot (form.text s spot.at) s d
  next_kept form (Moving q s d) = moved_kept q (form.place s q) (form.load s q) q.count (rest h.machine q d) s d
  next_kept form (Over e s d) = refl

  pub walk_kept : (form : Form) (steps : ℕ) (s : State D) → kept_in (walk form h steps s) ≡ kept_in s
  walk_kept form zero s = refl
  walk_kept form (suc steps) s = walk_kept form steps (next form h s) ∙ next_kept form s
