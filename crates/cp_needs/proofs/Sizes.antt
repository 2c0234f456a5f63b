-- A walk leaves as many bytes of storage.
use Rattle.std.specs.Prelude.{ℕ, zero, suc, ◌+◌, ◌≡◌, ◌==◌, ◌&&◌, Bool, true, false, not, if◌then◌else◌, [], ◌∷◌}
use Rattle.std.specs.Prelude.{length, Option, None, Some, refl}
use Rattle.std.proofs.Common.{◌∙◌, arith}
use Rattle.s370_store.specs.declared.Access.TheVariants.{Fetch, Store}
use Rattle.s370_store.specs.declared.Fault.{Fault}
use Rattle.s370_store.specs.declared.Fault.TheVariants.{Addressing, Protection, Absent}
use Rattle.s370_store.proofs.Puts.{length-put}
use Rattle.s370_store.proofs.Verdicts.{fits}
use Rattle.s370_walk.specs.declared.parts.Answer.{Answer}
use Rattle.s370_walk.specs.declared.parts.Answer.TheVariants as answers
use Rattle.s370_walk.specs.declared.parts.Direction.{Direction}
use Rattle.s370_walk.specs.declared.parts.Direction.TheVariants.{Gives, Takes, TakesUpTo}
use Rattle.s370_walk.specs.declared.parts.Transfer.{Transfer}
use Rattle.s370_walk.specs.declared.parts.NextCcw.{NextCcw}
use Rattle.s370_walk.specs.declared.parts.Position.{Position}
use Rattle.s370_walk.specs.declared.parts.Progress.{Progress}
use Rattle.s370_walk.specs.declared.parts.Progress.TheVariants.{At, Ended}
use Rattle.s370_walk.specs.declared.parts.Ccw.{Ccw}
use Rattle.s370_store.specs.Memory.{Memory}
use Rattle.s370_walk.specs.Hardware.{fault_of, area}
use Rattle.s370_walk.specs.Stuck.{size_in}
use Rattle.s370_walk.specs.Walk.{Form, Setting, State, Fetching, Moving, Over, Verdict, Bad, Jump, Good, next, walk}
use Rattle.s370_walk.specs.Walk.{Reaches, fetched, obeyed, entered, answered, judged, fails, closed, closes, state_of}
use Rattle.s370_walk.specs.Walk.{moved, rest, tells_length, chains_data, order_of, no_status, given_at, given_to}
use Rattle.s370_walk.specs.Walk.{taken_at, taken_from, byte_moved, stepped, skips}

module _ {D : Type 0} (h : Setting D) (n : ℕ) where
  of_state : (p : Progress) (m : Memory) (d : D) → length m.bytes ≡ n → size_in (state_of p m d) ≡ n
  of_state (At spot) m d i = i
  of_state (Ended e) m d i = i

  of_failure : (role : Option Transfer) (at : ℕ) (m : Memory) (d : D) → length m.bytes ≡ n
      → size_in (fails h role at m d) ≡ n
  of_failure None at m d i = i
  of_failure (Some t) at m d i = i

  of_closing : (wrong : Bool) (p : Position) (m : Memory) (d : D) → length m.bytes ≡ n
      → size_in (closes h wrong p m d) ≡ n
  of_closing wrong p m d i =
      of_state (closed h.prefix wrong (h.machine.status d) p.at p.started p.word p.count) m (h.machine.finished d) i

  of_answer : (spot : NextCcw) (w : Ccw) (a : Answer) (m : Memory) (d : D) → length m.bytes ≡ n
      → size_in (answered h.prefix spot w a m d) ≡ n
  of_answer spot w (answers.Refused status) m d i = i
  of_answer spot w answers.Immediate m d i =
      of_state (closed h.prefix false no_status spot.at (spot.started + 1) w w.count) m d i
  of_answer spot w (answers.Input n) m d i = i
  of_answer spot w (answers.Output n) m d i = i
  of_answer spot w (answers.OutputUpTo n) m d i = i

  of_entry : (spot : NextCcw) (w : Ccw) (role : Option Transfer) (m : Memory) (d : D) → length m.bytes ≡ n
      → size_in (entered h spot w role m d) ≡ n
  of_entry spot w None m d i =
      of_answer spot w (h.machine.answer d (order_of h.prefix spot w)) m
      (h.machine.started d (order_of h.prefix spot w)) i
  of_entry spot w (Some t) m d i = i

  of_obeying : (spot : NextCcw) (w : Ccw) (v : Verdict) (m : Memory) (d : D) → length m.bytes ≡ n
      → size_in (obeyed h spot w v m d) ≡ n
  of_obeying spot w Bad m d i = of_failure spot.role spot.at m d i
  of_obeying spot w Jump m d i = i
  of_obeying spot w Good m d i = of_entry spot w spot.role m d i

  of_fetch : (spot : NextCcw) (w : Option Ccw) (m : Memory) (d : D) → length m.bytes ≡ n
      → size_in (fetched h spot w m d) ≡ n
  of_fetch spot None m d i = of_failure spot.role spot.at m d i
  of_fetch spot (Some w) m d i = of_obeying spot w (judged h.limit spot w) m d i

  of_given : (p : Position) (a : ℕ) (fault : Option Fault) (m : Memory) (d : D)
      → fault_of m h.key (area Store a 1) ≡ fault → length m.bytes ≡ n → size_in (given_at h p a fault m d) ≡ n
  of_given p a None m d fine i =
      length-put m.bytes (h.machine.gives d ∷ []) a (fits (length m.bytes) m.keys h.key Store a 1 fine (omega arith)) ∙
      i
  of_given p a (Some Protection) m d fine i = i
  of_given p a (Some Addressing) m d fine i = i
  of_given p a (Some (Absent page)) m d fine i = i

  of_giving : (p : Position) (place : Option ℕ) (m : Memory) (d : D) → length m.bytes ≡ n
      → size_in (given_to h p place m d) ≡ n
  of_giving p None m d i = i
  of_giving p (Some a) m d i = of_given p a (fault_of m h.key (area Store a 1)) m d refl i

  of_taken : (p : Position) (a : ℕ) (load : ℕ → ℕ) (fault : Option Fault) (m : Memory) (d : D) → length m.bytes ≡ n
      → size_in (taken_at h p a load fault m d) ≡ n
  of_taken p a load None m d i = i
  of_taken p a load (Some Protection) m d i = i
  of_taken p a load (Some Addressing) m d i = i
  of_taken p a load (Some (Absent page)) m d i = i

  of_taking : (p : Position) (place : Option ℕ) (load : ℕ → ℕ) (m : Memory) (d : D) → length m.bytes ≡ n
      → size_in (taken_from h p place load m d) ≡ n
  of_taking p None load m d i = i
  of_taking p (Some a) load m d i = of_taken p a load (fault_of m h.key (area Fetch a 1)) m d i

  of_skip : (p : Position) (place : Option ℕ) (m : Memory) (d : D) (skip : Bool) → length m.bytes ≡ n
      → size_in (if skip then Moving (stepped p p.before) m (h.machine.gave d) else given_to h p place m d) ≡ n
  of_skip p place m d true i = i
  of_skip p place m d false i = of_giving p place m d i

  of_byte : (p : Position) (place : Option ℕ) (load : ℕ → ℕ) (kind : Direction) (m : Memory) (d : D)
      → length m.bytes ≡ n
      → size_in (byte_moved h p place load kind m d) ≡ n
  of_byte p place load Gives m d i = of_skip p place m d (skips p.word) i
  of_byte p place load Takes m d i = of_taking p place load m d i
  of_byte p place load TakesUpTo m d i = of_taking p place load m d i

  of_chain : (p : Position) (left : ℕ) (m : Memory) (d : D) (chains : Bool) → length m.bytes ≡ n
      → size_in (if chains then Fetching
      (record { at = p.word.next; role = Some p.transfer; jumped = false; started = p.started }) m d
      else closes h (not (left == 0) && tells_length p) p m d) ≡ n
  of_chain p left m d true i = i
  of_chain p left m d false i = of_closing (not (left == 0) && tells_length p) p m d i

  of_move : (p : Position) (place : Option ℕ) (load : ℕ → ℕ) (count left : ℕ) (m : Memory) (d : D) → length m.bytes ≡ n
      → size_in (moved h p place load count left m d) ≡ n
  of_move p place load zero left m d i = of_chain p left m d (chains_data p.word) i
  of_move p place load (suc count) zero m d i = of_closing (tells_length p) p m d i
  of_move p place load (suc count) (suc left) m d i = of_byte p place load p.transfer.kind m d i

  next_size : (form : Form) (s : State D) → size_in s ≡ n → size_in (next form h s) ≡ n
  next_size form (Fetching spot m d) i = of_fetch spot (form.text m spot.at) m d i
  next_size form (Moving p m d) i = of_move p (form.place m p) (form.load m p) p.count (rest h.machine p d) m d i
  next_size form (Over e m d) i = i

  walk_size : (form : Form) (k : ℕ) (s : State D) → size_in s ≡ n → size_in (walk form h k s) ≡ n
  walk_size form zero s i = i
  walk_size form (suc k) s i = walk_size form k (next form h s) (next_size form s i)

  pub reach_size : (form : Form) (s t : State D) → Reaches form h s t → size_in s ≡ n → size_in t ≡ n
  reach_size form s t to i = let there : size_in (walk form h to.steps s) ≡ n =
      walk_size form to.steps s i in rw (← to.comes) there
