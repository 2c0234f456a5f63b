-- A part walks as by itself.
use Rattle.std.specs.Prelude.{ℕ, zero, suc, ◌+◌, ◌==◌, ◌≡◌, ◌&&◌, refl, Bool, true, false, not, if◌then◌else◌, Option}
use Rattle.std.specs.Prelude.{None, Some}
use Rattle.std.proofs.Common.{sym, ◌∙◌, ap}
use Rattle.s370_store.specs.declared.Fault.{Fault}
use Rattle.s370_store.specs.declared.Fault.TheVariants.{Addressing, Protection, Absent}
use Rattle.s370_store.specs.declared.Access.TheVariants.{Fetch, Store}
use Rattle.s370_walk.specs.declared.parts.Answer.{Answer}
use Rattle.s370_walk.specs.declared.parts.Answer.TheVariants as answers
use Rattle.s370_walk.specs.declared.parts.Direction.{Direction}
use Rattle.s370_walk.specs.declared.parts.Direction.TheVariants.{Gives, Takes, TakesUpTo}
use Rattle.s370_walk.specs.declared.parts.Order.{Order}
use Rattle.s370_walk.specs.declared.parts.Transfer.{Transfer}
use Rattle.s370_walk.specs.declared.parts.NextCcw.{NextCcw}
use Rattle.s370_walk.specs.declared.parts.Position.{Position}
use Rattle.s370_walk.specs.declared.parts.Progress.{Progress}
use Rattle.s370_walk.specs.declared.parts.Progress.TheVariants.{At, Ended}
use Rattle.s370_walk.specs.declared.parts.Ccw.{Ccw}
use Rattle.s370_walk.specs.declared.bits.UnitStatus.{UnitStatus}
use Rattle.s370_walk.specs.declared.bits.ChannelStatus.{ChannelStatus}
use Rattle.s370_store.specs.Memory.{Memory}
use Rattle.s370_walk.specs.Hardware.{Machine, fault_of, area, put_byte}
use Rattle.s370_walk.specs.Walk.{Form, Setting, State, Fetching, Moving, Over, Verdict, Bad, Jump, Good, next, walk}
use Rattle.s370_walk.specs.Walk.{Reaches, fetched, obeyed, entered, answered, judged, fails, stops, ending}
use Rattle.s370_walk.specs.Walk.{program_check, protection_check, closed, closes, state_of, moved, counted_out, rest}
use Rattle.s370_walk.specs.Walk.{tells_length, chains_data, order_of, no_status, given_at, given_to, taken_at}
use Rattle.s370_walk.specs.Walk.{taken_from, byte_moved, stepped, skips}
use Rattle.cp_minidisk.specs.Projected.{IsPartOf, seen, on_device}

module _ {D E : Type 0} (part : D → E) (h : Setting D) (inner : Machine E) (is : IsPartOf part h.machine inner) where
  of_state : (p : Progress) (m : Memory) (d : D) → seen part (state_of p m d) ≡ state_of p m (part d)
  of_state (At spot) m d = refl
  of_state (Ended end) m d = refl

  of_stop : (at : ℕ) (check : ChannelStatus) (count : ℕ) (m : Memory) (d : D)
      → seen part (stops h at check count m d) ≡ stops (on_device h inner) at check count m (part d)
  of_stop at check count m d = rw (is.status d, is.finished d) refl

  of_failure : (role : Option Transfer) (at : ℕ) (m : Memory) (d : D)
      → seen part (fails h role at m d) ≡ fails (on_device h inner) role at m (part d)
  of_failure None at m d = refl
  of_failure (Some t) at m d = rw (is.status d, is.finished d) refl

  of_closing : (wrong : Bool) (p : Position) (m : Memory) (d : D)
      → seen part (closes h wrong p m d) ≡ closes (on_device h inner) wrong p m (part d)
  of_closing wrong p m d =
      rw (← is.status d, ← is.finished d) (of_state (closed h.prefix wrong
      (h.machine.status d) p.at p.started p.word p.count) m (h.machine.finished d))

  of_answer : (spot : NextCcw) (w : Ccw) (a : Answer) (m : Memory) (d : D)
      → seen part (answered h.prefix spot w a m d) ≡ answered h.prefix spot w a m (part d)
  of_answer spot w (answers.Refused status) m d = refl
  of_answer spot w answers.Immediate m d = of_state (closed h.prefix false no_status spot.at
      (spot.started + 1) w w.count) m d
  of_answer spot w (answers.Input n) m d = refl
  of_answer spot w (answers.Output n) m d = refl
  of_answer spot w (answers.OutputUpTo n) m d = refl

  pub of_entry : (spot : NextCcw) (w : Ccw) (role : Option Transfer) (m : Memory) (d : D)
      → seen part (entered h spot w role m d) ≡ entered (on_device h inner) spot w role m (part d)
  of_entry spot w None m d =
      let o : Order = order_of h.prefix spot w in
      rw (← is.answer d o, ← is.started d o) (of_answer spot w (h.machine.answer d o) m (h.machine.started d o))
  of_entry spot w (Some t) m d = refl

  of_obeying : (spot : NextCcw) (w : Ccw) (v : Verdict) (m : Memory) (d : D)
      → seen part (obeyed h spot w v m d) ≡ obeyed (on_device h inner) spot w v m (part d)
  of_obeying spot w Bad m d = of_failure spot.role spot.at m d
  of_obeying spot w Jump m d = refl
  of_obeying spot w Good m d = of_entry spot w spot.role m d

  of_fetch : (spot : NextCcw) (w : Option Ccw) (m : Memory) (d : D)
      → seen part (fetched h spot w m d) ≡ fetched (on_device h inner) spot w m (part d)
  of_fetch spot None m d = of_failure spot.role spot.at m d
  of_fetch spot (Some w) m d = of_obeying spot w (judged h.limit spot w) m d

  of_given : (p : Position) (a : ℕ) (fault : Option Fault) (m : Memory) (d : D)
      → seen part (given_at h p a fault m d) ≡ given_at (on_device h inner) p a fault m (part d)
  of_given p a None m d = rw (is.gives d, is.gave d) refl
  of_given p a (Some Protection) m d = of_stop p.at protection_check p.count m d
  of_given p a (Some Addressing) m d = of_stop p.at program_check p.count m d
  of_given p a (Some (Absent page)) m d = of_stop p.at program_check p.count m d

  of_giving : (p : Position) (place : Option ℕ) (m : Memory) (d : D)
      → seen part (given_to h p place m d) ≡ given_to (on_device h inner) p place m (part d)
  of_giving p None m d = of_stop p.at program_check p.count m d
  of_giving p (Some a) m d = of_given p a (fault_of m h.key (area Store a 1)) m d

  of_taken : (p : Position) (a : ℕ) (load : ℕ → ℕ) (fault : Option Fault) (m : Memory) (d : D)
      → seen part (taken_at h p a load fault m d) ≡ taken_at (on_device h inner) p a load fault m (part d)
  of_taken p a load None m d = rw (is.took d (load a)) refl
  of_taken p a load (Some Protection) m d = of_stop p.at protection_check p.count m d
  of_taken p a load (Some Addressing) m d = of_stop p.at program_check p.count m d
  of_taken p a load (Some (Absent page)) m d = of_stop p.at program_check p.count m d

  of_taking : (p : Position) (place : Option ℕ) (load : ℕ → ℕ) (m : Memory) (d : D)
      → seen part (taken_from h p place load m d) ≡ taken_from (on_device h inner) p place load m (part d)
  of_taking p None load m d = of_stop p.at program_check p.count m d
  of_taking p (Some a) load m d = of_taken p a load (fault_of m h.key (area Fetch a 1)) m d

  of_skip : (p : Position) (place : Option ℕ) (m : Memory) (d : D) (skip : Bool)
      → seen part (if skip then Moving (stepped p p.before) m (h.machine.gave d) else given_to h p place m d)
      ≡ (if skip then Moving (stepped p p.before) m (inner.gave (part d)) else given_to (on_device h inner) p place m
      (part d))
  of_skip p place m d true = rw (is.gave d) refl
  of_skip p place m d false = of_giving p place m d

  of_byte : (p : Position) (place : Option ℕ) (load : ℕ → ℕ) (kind : Direction) (m : Memory) (d : D)
      → seen part (byte_moved h p place load kind m d) ≡ byte_moved (on_device h inner) p place load kind m (part d)
  of_byte p place load Gives m d = of_skip p place m d (skips p.word)
  of_byte p place load Takes m d = of_taking p place load m d
  of_byte p place load TakesUpTo m d = of_taking p place load m d

  of_chain : (p : Position) (left : ℕ) (m : Memory) (d : D) (chains : Bool)
      → seen part (if chains then Fetching (record {
        at = p.word.next;
        role = Some p.transfer;
        jumped = false;
        started = p.started;
      }) m d
      else closes h (not (left == 0) && tells_length p) p m d)
      ≡ (if chains then Fetching (record {
        at = p.word.next;
        role = Some p.transfer;
        jumped = false;
        started = p.started;
      }) m (part d)
      else closes (on_device h inner) (not (left == 0) && tells_length p) p m (part d))
  of_chain p left m d true = refl
  of_chain p left m d false = of_closing (not (left == 0) && tells_length p) p m d

  of_move : (p : Position) (place : Option ℕ) (load : ℕ → ℕ) (count left : ℕ) (m : Memory) (d : D)
      → seen part (moved h p place load count left m d) ≡ moved (on_device h inner) p place load count left m (part d)
  of_move p place load zero left m d = of_chain p left m d (chains_data p.word)
  of_move p place load (suc count) zero m d = of_closing (tells_length p) p m d
  of_move p place load (suc count) (suc left) m d = of_byte p place load p.transfer.kind m d

  next_seen : (form : Form) (s : State D) → seen part (next form h s) ≡ next form (on_device h inner) (seen part s)
  next_seen form (Fetching spot m d) = of_fetch spot (form.text m spot.at) m d
  next_seen form (Moving p m d) = rw (← is.done d) (of_move p (form.place m p) (form.load m p) p.count
      (rest h.machine p d) m d)
  next_seen form (Over e m d) = refl

  walk_seen : (form : Form) (n : ℕ) (s : State D) → seen part (walk form h n s) ≡ walk form (on_device h inner) n
      (seen part s)
  walk_seen form zero s = refl
  walk_seen form (suc n) s = walk_seen form n (next form h s) ∙ ap (walk form (on_device h inner) n) (next_seen form s)

  pub reaches_seen : (form : Form) (s t : State D) → Reaches form h s t
      → Reaches form (on_device h inner) (seen part s) (seen part t)
  reaches_seen form s t to = record {
    steps = to.steps;
    comes = sym (walk_seen form to.steps s)
        ∙ ap (seen part) to.comes;
  }
