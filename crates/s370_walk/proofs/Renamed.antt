-- A copied program walks as the guest's.
use Rattle.std.specs.Prelude.{◌<◌, nat_lt, ℕ, zero, suc, ◌+◌, ◌%◌, ◌==◌, ◌≡◌, Bool, true, false, not, ◌&&◌, ◌||◌}
use Rattle.std.specs.Prelude.{if◌then◌else◌, Option, None, Some, refl}
use Rattle.std.proofs.Common.{ap, ◌∙◌, sym, arith}
use Rattle.s370_walk.proofs.Freezing.{moved_same}
use Rattle.s370_walk.specs.declared.parts.Transfer.{Transfer}
use Rattle.s370_walk.specs.declared.parts.NextCcw.{NextCcw}
use Rattle.s370_walk.specs.declared.parts.Position.{Position}
use Rattle.s370_walk.specs.declared.parts.Ccw.{Ccw}
use Rattle.s370_walk.specs.declared.parts.Progress.TheVariants.{At, Ended}
use Rattle.s370_walk.specs.declared.parts.Direction.{Direction}
use Rattle.s370_walk.specs.declared.parts.Direction.TheVariants.{Gives, Takes, TakesUpTo}
use Rattle.s370_walk.specs.declared.parts.Answer.{Answer}
use Rattle.s370_walk.specs.declared.parts.Answer.TheVariants as answers
use Rattle.s370_store.specs.Memory.{Memory}
use Rattle.s370_walk.specs.Hardware.{fault_of, area}
use Rattle.s370_store.specs.declared.Access.TheVariants.{Fetch, Store}
use Rattle.s370_store.specs.declared.Fault.{Fault}
use Rattle.s370_store.specs.declared.Fault.TheVariants.{Addressing, Protection, Absent}
use Rattle.s370_walk.specs.Walk.{Form, Setting, State, Fetching, Moving, Over, Verdict, Bad, Jump, Good, next, walk}
use Rattle.s370_walk.specs.Walk.{fetched, obeyed, entered, answered, judged, fails, closed, closes, state_of, may_chain}
use Rattle.s370_walk.specs.Walk.{at_command, moved, counted_out, byte_moved, given_to, given_at, taken_from, taken_at}
use Rattle.s370_walk.specs.Walk.{stepped, rest, moving, skips, tells_length, chains_data, chains_command, order_of}
use Rattle.s370_walk.specs.Walk.{ending, is_bad_word, is_indirect, is_jump, no_check, no_status}
use Rattle.s370_walk.specs.Stuck.{is_skipped}
use Rattle.s370_walk.specs.Bits.{has_bits}
use Rattle.s370_walk.specs.declared.bits.UnitStatus.{UnitStatus}
use Rattle.s370_walk.specs.Tracks.{has_area}
use Rattle.s370_walk.specs.Renaming.{renamed, renamed_word, renamed_found, renamed_spot, renamed_position, IsCopy}
use Rattle.s370_walk.specs.Renaming.{IsAt, IsInside, Leads, LeadsFrom}

some_left : (count : ℕ) (x y : Bool) → nat_lt 0 count && x && y ≡ true → 0 < count
some_left zero x y e = cc
some_left (suc n) x y e = omega arith

not_skipped : (x y : Bool) → x && not y ≡ true → y ≡ false
not_skipped true false e = refl
not_skipped true true e = cc
not_skipped false y e = cc

-- a word that is obeyed has an area
good_area : (w : Ccw) → is_jump w ≡ false → is_bad_word w ≡ false → has_area w ≡ true
good_area w plain good = by_list (w.count == 0) (has_bits w.flags.bits 11)
    (is_indirect w && not (w.address % 4 == 0)) good
  where
    by_list : (empty wrong off : Bool) → empty || wrong || off ≡ false → not (is_jump w) && not off ≡ true
    by_list false false false e = rw plain refl
    by_list true wrong off e = cc
    by_list false true off e = cc
    by_list false false true e = cc

module _ {D : Type 0} (guest : ℕ → ℕ) (h : Setting D) where
  fails_renamed : (role : Option Transfer) (at : ℕ) (m : Memory) (d : D)
      → renamed guest (fails h role at m d) ≡ fails h role (guest at) m d
  fails_renamed None at m d = refl
  fails_renamed (Some t) at m d = refl

  closed_renamed : (wrong : Bool) (status : UnitStatus) (at started : ℕ) (w : Ccw) (count : ℕ) (m : Memory) (d : D)
      → renamed guest (state_of (closed h.prefix wrong status at started w count) m d) ≡ state_of
      (closed h.prefix wrong status (guest at) started (renamed_word guest w) count) m d
  closed_renamed true status at started w count m d = refl
  closed_renamed false status at started w count m d = by_chain (may_chain w status) (has_bits status.bits 64)
    where
      by_chain : (chains skips : Bool) → renamed guest (state_of {D = D}
          (if chains then At (at_command h.prefix (if skips then w.skipped else w.next) started) else Ended
          (ending at status no_check count)) m d)
          ≡ state_of (if chains then At (at_command h.prefix (if skips then guest w.skipped else guest w.next) started)
          else Ended (ending (guest at) status no_check count)) m d
      by_chain true true = refl
      by_chain true false = refl
      by_chain false skips = refl

  closes_renamed : (wrong : Bool) (p : Position) (m : Memory) (d : D)
      → renamed guest (closes h wrong p m d) ≡ closes h wrong (renamed_position guest p) m d
  closes_renamed wrong p m d = closed_renamed wrong (h.machine.status d) p.at p.started p.word p.count m
      (h.machine.finished d)

  answered_renamed : (spot : NextCcw) (w : Ccw) (answer : Answer) (m : Memory) (d : D)
      → renamed guest (answered h.prefix spot w answer m d) ≡ answered h.prefix (renamed_spot guest spot)
      (renamed_word guest w) answer m d
  answered_renamed spot w (answers.Refused status) m d = refl
  answered_renamed spot w answers.Immediate m d = closed_renamed false no_status spot.at
      (spot.started + 1) w w.count m d
  answered_renamed spot w (answers.Input n) m d = refl
  answered_renamed spot w (answers.Output n) m d = refl
  answered_renamed spot w (answers.OutputUpTo n) m d = refl

  entered_renamed : (spot : NextCcw) (w : Ccw) (role : Option Transfer) (m : Memory) (d : D)
      → renamed guest (entered h spot w role m d) ≡ entered h (renamed_spot guest spot) (renamed_word guest w) role m d
  entered_renamed spot w None m d = answered_renamed spot w (h.machine.answer d (order_of h.prefix spot w)) m
      (h.machine.started d (order_of h.prefix spot w))
  entered_renamed spot w (Some t) m d = refl

  obeyed_renamed : (spot : NextCcw) (w : Ccw) (verdict : Verdict) (m : Memory) (d : D)
      → renamed guest (obeyed h spot w verdict m d) ≡ obeyed h (renamed_spot guest spot)
      (renamed_word guest w) verdict m d
  obeyed_renamed spot w Bad m d = fails_renamed spot.role spot.at m d
  obeyed_renamed spot w Jump m d = refl
  obeyed_renamed spot w Good m d = entered_renamed spot w spot.role m d

  fetched_renamed : (spot : NextCcw) (found : Option Ccw) (m : Memory) (d : D)
      → renamed guest (fetched h spot found m d) ≡ fetched h (renamed_spot guest spot) (renamed_found guest found) m d
  fetched_renamed spot None m d = fails_renamed spot.role spot.at m d
  fetched_renamed spot (Some w) m d = obeyed_renamed spot w (judged h.limit spot w) m d

  given_at_renamed : (p : Position) (a : ℕ) (fault : Option Fault) (m : Memory) (d : D)
      → renamed guest (given_at h p a fault m d) ≡ given_at h (renamed_position guest p) a fault m d
  given_at_renamed p a None m d = refl
  given_at_renamed p a (Some Addressing) m d = refl
  given_at_renamed p a (Some Protection) m d = refl
  given_at_renamed p a (Some (Absent page)) m d = refl

  given_renamed : (p : Position) (place : Option ℕ) (m : Memory) (d : D)
      → renamed guest (given_to h p place m d) ≡ given_to h (renamed_position guest p) place m d
  given_renamed p None m d = refl
  given_renamed p (Some a) m d = given_at_renamed p a (fault_of m h.key (area Store a 1)) m d

  taken_at_renamed : (p : Position) (a : ℕ) (load : ℕ → ℕ) (fault : Option Fault) (m : Memory) (d : D)
      → renamed guest (taken_at h p a load fault m d) ≡ taken_at h (renamed_position guest p) a load fault m d
  taken_at_renamed p a load None m d = refl
  taken_at_renamed p a load (Some Addressing) m d = refl
  taken_at_renamed p a load (Some Protection) m d = refl
  taken_at_renamed p a load (Some (Absent page)) m d = refl

  taken_renamed : (p : Position) (place : Option ℕ) (load : ℕ → ℕ) (m : Memory) (d : D)
      → renamed guest (taken_from h p place load m d) ≡ taken_from h (renamed_position guest p) place load m d
  taken_renamed p None load m d = refl
  taken_renamed p (Some a) load m d = taken_at_renamed p a load (fault_of m h.key (area Fetch a 1)) m d

  byte_renamed : (p : Position) (place : Option ℕ) (load : ℕ → ℕ) (kind : Direction) (m : Memory) (d : D)
      → renamed guest (byte_moved h p place load kind m d) ≡ byte_moved h (renamed_position guest p) place load kind m d
  byte_renamed p place load Gives m d = by_skip (skips p.word)
    where
      by_skip : (skips : Bool) → renamed guest (if skips then Moving (stepped p p.before) m
          (h.machine.gave d) else given_to h p place m d)
          ≡ (if skips then Moving (stepped (renamed_position guest p) p.before) m (h.machine.gave d) else given_to h
          (renamed_position guest p) place m d)
      by_skip true = refl
      by_skip false = given_renamed p place m d
  byte_renamed p place load Takes m d = taken_renamed p place load m d
  byte_renamed p place load TakesUpTo m d = taken_renamed p place load m d

  counted_renamed : (p : Position) (left : ℕ) (m : Memory) (d : D)
      → renamed guest (counted_out h p left m d) ≡ counted_out h (renamed_position guest p) left m d
  counted_renamed p left m d = by_chain (chains_data p.word) (not (left == 0) && tells_length p)
    where
      by_chain : (chains wrong : Bool) → renamed guest (if chains then Fetching
          (record { at = p.word.next; role = Some p.transfer; jumped = false; started = p.started }) m d else closes h
          wrong p m d)
          ≡ (if chains then Fetching (record {
            at = guest p.word.next;
            role = Some p.transfer;
            jumped = false;
            started = p.started;
          }) m d else closes h wrong (renamed_position guest p) m d)
      by_chain true wrong = refl
      by_chain false wrong = closes_renamed wrong p m d

  moved_renamed : (p : Position) (place : Option ℕ) (load : ℕ → ℕ) (count left : ℕ) (m : Memory) (d : D)
      → renamed guest (moved h p place load count left m d) ≡ moved h
      (renamed_position guest p) place load count left m d
  moved_renamed p place load zero left m d = counted_renamed p left m d
  moved_renamed p place load (suc count) zero m d = closes_renamed (tells_length p) p m d
  moved_renamed p place load (suc count) (suc left) m d = byte_renamed p place load p.transfer.kind m d

  next_renamed : (inside : ℕ → Type 0) (tracks : Position → Type 0) (copied form : Form)
      → IsCopy guest inside tracks copied form → (s : State D) → IsInside inside tracks copied s
      → renamed guest (next copied h s) ≡ next form h (renamed guest s)
  next_renamed inside tracks copied form copy (Fetching spot m d) in_copy =
      fetched_renamed spot (copied.text m spot.at) m d ∙ ap (λ found. fetched h (renamed_spot guest spot) found m d)
      (sym (copy.words m spot.at in_copy))
  next_renamed inside tracks copied form copy (Moving p m d) in_copy =
      moved_renamed p (copied.place m p) (copied.load m p) p.count (rest h.machine p d) m d
      ∙ moved_same h (renamed_position guest p) (copied.place m p) (form.place m (renamed_position guest p))
      (copied.load m p) (form.load m (renamed_position guest p)) m d p.count (rest h.machine p d)
      (λ moves_on. sym (copy.places m p in_copy.there in_copy.word in_copy.tracked (some_left p.count _ _ moves_on)
      (not_skipped _ _ moves_on)))
      (λ moves_on a at. ap (λ load. load a) (sym (copy.loads m p)))
  next_renamed inside tracks copied form copy (Over e m d) in_copy = refl

-- A step stays within the copy.
module _ {D : Type 0} (inside : ℕ → Type 0) (tracks : Position → Type 0) (copied : Form) (h : Setting D) where
  closed_inside : (wrong : Bool) (status : UnitStatus) (at started : ℕ) (w : Ccw) (count : ℕ) (m : Memory) (d : D)
      → Leads inside w → IsInside inside tracks copied (state_of {D = D}
      (closed h.prefix wrong status at started w count) m d)
  closed_inside true status at started w count m d leads = tt
  closed_inside false status at started w count m d leads = by_chain (chains_command w) (chains_data w)
      (not (has_bits status.bits 3)) (has_bits status.bits 64) leads.command_next leads.skipped
    where
      by_chain : (chains more may skips : Bool) → (chains ≡ true → more ≡ false → inside w.next)
          → (chains ≡ true → more ≡ false → inside w.skipped)
          → IsInside inside tracks copied (state_of {D = D} (if chains && not more && may then At
          (at_command h.prefix (if skips then w.skipped else w.next) started) else Ended
          (ending at status no_check count)) m d)
      by_chain true false true true n s = s refl refl
      by_chain true false true false n s = n refl refl
      by_chain true false false skips n s = tt
      by_chain true true may skips n s = tt
      by_chain false more may skips n s = tt

  begin_at : (guest : ℕ → ℕ) (form : Form) → IsCopy guest inside tracks copied form
      → (spot : NextCcw) (started : ℕ) (w : Ccw) (t : Transfer) → inside spot.at
      → ((m : Memory) → copied.text m spot.at ≡ Some w) → Leads inside w → has_area w ≡ true
      → IsAt inside tracks copied (moving spot started w t)
  begin_at guest form copy spot started w t there word leads has = record {
    there = there;
    word = word;
    leads = leads;
    tracked = copy.begins spot started w t has;
  }

  answered_inside : (guest : ℕ → ℕ) (form : Form) → IsCopy guest inside tracks copied form
      → (spot : NextCcw) (w : Ccw) (answer : Answer) (m : Memory) (d : D) → inside spot.at
      → ((n : Memory) → copied.text n spot.at ≡ Some w) → Leads inside w → has_area w ≡ true
      → IsInside inside tracks copied (answered h.prefix spot w answer m d)
  answered_inside guest form copy spot w (answers.Refused status) m d there word leads has = tt
  answered_inside guest form copy spot w answers.Immediate m d there word leads has = closed_inside false no_status
      spot.at (spot.started + 1) w w.count m d leads
  answered_inside guest form copy spot w (answers.Input n) m d there word leads has = begin_at guest form copy spot _ w
      _ there word leads has
  answered_inside guest form copy spot w (answers.Output n) m d there word leads has = begin_at guest form copy spot _ w
      _ there word leads has
  answered_inside guest form copy spot w (answers.OutputUpTo n) m d there word leads has = begin_at guest form copy spot
      _ w _ there word leads has

  entered_inside : (guest : ℕ → ℕ) (form : Form) → IsCopy guest inside tracks copied form
      → (spot : NextCcw) (w : Ccw) (role : Option Transfer) (m : Memory) (d : D) → inside spot.at
      → ((n : Memory) → copied.text n spot.at ≡ Some w) → Leads inside w → has_area w ≡ true
      → IsInside inside tracks copied (entered h spot w role m d)
  entered_inside guest form copy spot w None m d there word leads has = answered_inside guest form copy spot w
      (h.machine.answer d (order_of h.prefix spot w)) m (h.machine.started d (order_of h.prefix spot w)) there word
      leads has
  entered_inside guest form copy spot w (Some t) m d there word leads has = begin_at guest form copy spot _ w _ there
      word leads has

  obeyed_inside : (guest : ℕ → ℕ) (form : Form) → IsCopy guest inside tracks copied form
      → (spot : NextCcw) (w : Ccw) (m : Memory) (d : D) → inside spot.at
      → ((n : Memory) → copied.text n spot.at ≡ Some w) → Leads inside w
      → IsInside inside tracks copied (obeyed h spot w (judged h.limit spot w) m d)
  obeyed_inside guest form copy spot w m d there word leads = by_jump (is_jump w) refl spot.jumped (w.address % 8 == 0)
      (is_bad_word w) refl _ leads.jump
    where
      by_jump : (jumps : Bool) → is_jump w ≡ jumps → (again even bad : Bool) → is_bad_word w ≡ bad → (other : Bool)
          → (jumps ≡ true → even ≡ true → inside w.next)
          → IsInside inside tracks copied (obeyed h spot w (if jumps then (if again || not even then Bad else Jump) else
          (if bad || other then Bad else Good)) m d)
      by_jump true is true even bad good other n = tt
      by_jump true is false false bad good other n = tt
      by_jump true is false true bad good other n = n refl refl
      by_jump false is again even true good other n = tt
      by_jump false is again even false good true n = tt
      by_jump false is again even false good false n = entered_inside guest form copy spot w spot.role m d there word
          leads (good_area w is good)

  fetched_inside : (guest : ℕ → ℕ) (form : Form) → IsCopy guest inside tracks copied form
      → (spot : NextCcw) (found : Option Ccw) (m : Memory) (d : D) → inside spot.at
      → ((n : Memory) → copied.text n spot.at ≡ found) → LeadsFrom inside found
      → IsInside inside tracks copied (fetched h spot found m d)
  fetched_inside guest form copy spot None m d there word leads = tt
  fetched_inside guest form copy spot (Some w) m d there word leads = obeyed_inside guest form copy spot w m d there
      word leads

  given_at_inside : (p : Position) (a : ℕ) (fault : Option Fault) (m : Memory) (d : D)
      → IsAt inside tracks copied (stepped p (Some a)) → IsInside inside tracks copied (given_at h p a fault m d)
  given_at_inside p a None m d x = x
  given_at_inside p a (Some Addressing) m d x = tt
  given_at_inside p a (Some Protection) m d x = tt
  given_at_inside p a (Some (Absent page)) m d x = tt

  given_inside : (p : Position) (place : Option ℕ) (m : Memory) (d : D)
      → ((a : ℕ) → place ≡ Some a → IsAt inside tracks copied (stepped p (Some a)))
      → IsInside inside tracks copied (given_to h p place m d)
  given_inside p None m d x = tt
  given_inside p (Some a) m d x = given_at_inside p a (fault_of m h.key (area Store a 1)) m d (x a refl)

  taken_at_inside : (p : Position) (a : ℕ) (load : ℕ → ℕ) (fault : Option Fault) (m : Memory) (d : D)
      → IsAt inside tracks copied (stepped p (Some a)) → IsInside inside tracks copied (taken_at h p a load fault m d)
  taken_at_inside p a load None m d x = x
  taken_at_inside p a load (Some Addressing) m d x = tt
  taken_at_inside p a load (Some Protection) m d x = tt
  taken_at_inside p a load (Some (Absent page)) m d x = tt

  taken_inside : (p : Position) (place : Option ℕ) (load : ℕ → ℕ) (m : Memory) (d : D)
      → ((a : ℕ) → place ≡ Some a → IsAt inside tracks copied (stepped p (Some a)))
      → IsInside inside tracks copied (taken_from h p place load m d)
  taken_inside p None load m d x = tt
  taken_inside p (Some a) load m d x = taken_at_inside p a load (fault_of m h.key (area Fetch a 1)) m d (x a refl)

  -- a byte further, at a position of the copy
  step_at : (p : Position) (b : Option ℕ) → IsAt inside tracks copied p → tracks (stepped p b)
      → IsAt inside tracks copied (stepped p b)
  step_at p b x t = record { there = x.there; word = x.word; leads = x.leads; tracked = t }

  byte_inside : (p : Position) (place : Option ℕ) (load : ℕ → ℕ) (kind : Direction) (m : Memory) (d : D)
      → (is_skipped p kind ≡ true → IsAt inside tracks copied (stepped p p.before))
      → (is_skipped p kind ≡ false → (a : ℕ) → place ≡ Some a → IsAt inside tracks copied (stepped p (Some a)))
      → IsInside inside tracks copied (byte_moved h p place load kind m d)
  byte_inside p place load Gives m d over steps = by_skip (skips p.word) over steps
    where
      by_skip : (b : Bool) → (b ≡ true → IsAt inside tracks copied (stepped p p.before))
          → (b ≡ false → (a : ℕ) → place ≡ Some a → IsAt inside tracks copied (stepped p (Some a)))
          → IsInside inside tracks copied (if b then Moving (stepped p p.before) m
          (h.machine.gave d) else given_to h p place m d)
      by_skip true skip step = skip refl
      by_skip false skip step = given_inside p place m d (step refl)
  byte_inside p place load Takes m d skips steps = taken_inside p place load m d (steps refl)
  byte_inside p place load TakesUpTo m d skips steps = taken_inside p place load m d (steps refl)

  closes_inside : (wrong : Bool) (p : Position) (m : Memory) (d : D) → Leads inside p.word
      → IsInside inside tracks copied (closes h wrong p m d)
  closes_inside wrong p m d leads = closed_inside wrong (h.machine.status d) p.at p.started p.word p.count m
      (h.machine.finished d) leads

  counted_inside : (p : Position) (left : ℕ) (m : Memory) (d : D) → Leads inside p.word
      → IsInside inside tracks copied (counted_out h p left m d)
  counted_inside p left m d leads = by_chain (chains_data p.word) (not (left == 0) && tells_length p) leads.data_next
    where
      by_chain : (chains wrong : Bool) → (chains ≡ true → inside p.word.next)
          → IsInside inside tracks copied (if chains then Fetching
          (record { at = p.word.next; role = Some p.transfer; jumped = false; started = p.started }) m d else closes h
          wrong p m d)
      by_chain true wrong n = n refl
      by_chain false wrong n = closes_inside wrong p m d leads

  moved_inside : (guest : ℕ → ℕ) (form : Form) → IsCopy guest inside tracks copied form
      → (p : Position) (load : ℕ → ℕ) (count left : ℕ) → p.count ≡ count → (m : Memory) (d : D)
      → IsAt inside tracks copied p
      → IsInside inside tracks copied (moved h p (copied.place m p) load count left m d)
  moved_inside guest form copy p load zero left e m d x = counted_inside p left m d x.leads
  moved_inside guest form copy p load (suc count) zero e m d x = closes_inside (tells_length p) p m d x.leads
  moved_inside guest form copy p load (suc count) (suc left) e m d x =
      let some : 0 < p.count = omega (arith, e) in
      byte_inside p (copied.place m p) load p.transfer.kind m d
      (λ skip. step_at p p.before x (copy.skips p x.tracked some skip))
      (λ plain a is. step_at p (Some a) x (copy.moves_on m p a x.there x.word x.tracked some plain is))

  next_inside : (guest : ℕ → ℕ) (form : Form) → IsCopy guest inside tracks copied form → (s : State D)
      → IsInside inside tracks copied s → IsInside inside tracks copied (next copied h s)
  next_inside guest form copy (Fetching spot m d) at = fetched_inside guest form copy spot
      (copied.text m spot.at) m d at (λ n. copy.same n m spot.at) (copy.closed m spot.at at)
  next_inside guest form copy (Moving p m d) x = moved_inside guest form copy p (copied.load m p) p.count
      (rest h.machine p d) refl m d x
  next_inside guest form copy (Over e m d) at = tt

-- The copy walks as the guest's program.
pub walk_renamed : {D : Type 0} (guest : ℕ → ℕ) (inside : ℕ → Type 0) (tracks : Position → Type 0) (copied form : Form)
    (h : Setting D) → IsCopy guest inside tracks copied form → (n : ℕ) (s : State D) → IsInside inside tracks copied s
    → renamed guest (walk copied h n s) ≡ walk form h n (renamed guest s)
walk_renamed guest inside tracks copied form h copy zero s at = refl
walk_renamed guest inside tracks copied form h copy (suc n) s at =
    walk_renamed guest inside tracks copied form h copy n (next copied h s)
    (next_inside inside tracks copied h guest form copy s at)
    ∙ ap (walk form h n) (next_renamed guest h inside tracks copied form copy s at)
