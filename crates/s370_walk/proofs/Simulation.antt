-- Two walks in step.
use Rattle.std.specs.Prelude.{ℕ, zero, suc, ◌+◌, ◌==◌, ◌≡◌, Bool, true, false, not, ◌&&◌, if◌then◌else◌, Option, None}
use Rattle.std.specs.Prelude.{Some, refl}
use Rattle.std.proofs.Common.{ap, inl, inr}
use Rattle.s370_walk.specs.declared.parts.Progress.TheVariants.{At, Ended}
use Rattle.s370_walk.specs.declared.parts.Transfer.{Transfer}
use Rattle.s370_walk.specs.declared.parts.NextCcw.{NextCcw}
use Rattle.s370_walk.specs.declared.parts.Position.{Position}
use Rattle.s370_walk.specs.declared.parts.Ccw.{Ccw}
use Rattle.s370_walk.specs.declared.parts.Answer.{Answer}
use Rattle.s370_walk.specs.declared.parts.Answer.TheVariants as answers
use Rattle.s370_store.specs.Memory.{Memory}
use Rattle.s370_walk.specs.Walk.{Form, Setting, State, Fetching, Verdict, Bad, Jump, Good, next, walk, fetched, obeyed}
use Rattle.s370_walk.specs.Walk.{entered, answered, judged, fails, closed, closes, state_of, may_chain, next_place}
use Rattle.s370_walk.specs.Walk.{at_command, moved, counted_out, rest, tells_length, chains_data, order_of, ending}
use Rattle.s370_walk.specs.Walk.{no_check, no_status}
use Rattle.s370_walk.specs.declared.bits.UnitStatus.{UnitStatus}
use Rattle.s370_walk.specs.Pairing.{Pairing, InRole, moved_to, Related, fetching, moving_on, over, begins_transfer}
use Rattle.s370_walk.specs.Pairing.{IsOver, Simulates}

module _ {D E : Type 0} (r : Pairing D E) (form : Form) (h : Setting D) (form' : Form) (h' : Setting E)
    (both : Simulates r form h form' h') where
  closed_related : (wrong : Bool) (status : UnitStatus) (at started : ℕ) (w : Ccw) (count : ℕ) (m n : Memory) (d : D)
      (e : E) → r.storage m n → r.idle d e
      → Related r (state_of (closed h.prefix wrong status at started w count) m d)
      (state_of (closed h.prefix wrong status at started w count) n e)
  closed_related true status at started w count m n d e s i = over _ m n d e s i
  closed_related false status at started w count m n d e s i = by_chain (may_chain w status)
    where
      by_chain : (chains : Bool) → Related r (state_of (if chains then At
          (at_command h.prefix (next_place status w) started) else Ended (ending at status no_check count)) m d)
          (state_of (if chains then At (at_command h.prefix (next_place status w) started) else Ended
          (ending at status no_check count)) n e)
      by_chain true = fetching _ m n d e s i
      by_chain false = over _ m n d e s i

  closes_related : (wrong : Bool) (p : Position) (b : Option ℕ) (m n : Memory) (d : D) (e : E) → r.storage m n
      → IsOver h.machine p d → r.busy p b d e → Related r (closes h wrong p m d) (closes h' wrong (moved_to p b) n e)
  closes_related wrong p b m n d e s is_over busy =
      rw (← both.prefix, both.ends d e p b is_over busy) (closed_related wrong
      (h'.machine.status e) p.at p.started p.word p.count m n (h.machine.finished d) (h'.machine.finished e) s
      (both.ended d e p b is_over busy))

  fails_related : (role : Option Transfer) (at : ℕ) (m n : Memory) (d : D) (e : E) → r.storage m n → InRole r role d e
      → Related r (fails h role at m d) (fails h' role at n e)
  fails_related None at m n d e s i = over _ m n d e s i
  fails_related (Some t) at m n d e s i = rw (both.status d e t i) (over _ m n _ _ s (both.finished d e t i))

  answered_related : (spot : NextCcw) (w : Ccw) (answer : Answer) (m n : Memory) (d : D) (e : E)
      → form'.text n spot.at ≡ Some w → spot.role ≡ None → judged h'.limit spot w ≡ Good
      → h.machine.answer d (order_of h.prefix spot w) ≡ answer → r.storage m n → r.idle d e
      → Related r (answered h.prefix spot w answer m (h.machine.started d (order_of h.prefix spot w)))
      (answered h.prefix spot w answer n (h'.machine.started e (order_of h.prefix spot w)))
  answered_related spot w (answers.Refused status) m n d e there alone good same s i = over _ m n _ _ s
      (both.started d e (order_of h.prefix spot w) i)
  answered_related spot w answers.Immediate m n d e there alone good same s i = closed_related false no_status spot.at
      (spot.started + 1) w w.count m n _ _ s (both.started d e (order_of h.prefix spot w) i)
  answered_related spot w (answers.Input k) m n d e there alone good same s i = moving_on _ None m n _ _ s
      (both.began n d e h.prefix spot w _ there alone good (ap (begins_transfer w) same) i)
  answered_related spot w (answers.Output k) m n d e there alone good same s i = moving_on _ None m n _ _ s
      (both.began n d e h.prefix spot w _ there alone good (ap (begins_transfer w) same) i)
  answered_related spot w (answers.OutputUpTo k) m n d e there alone good same s i = moving_on _ None m n _ _ s
      (both.began n d e h.prefix spot w _ there alone good (ap (begins_transfer w) same) i)

  entered_related : (spot : NextCcw) (w : Ccw) (role : Option Transfer) (m n : Memory) (d : D) (e : E)
      → form'.text n spot.at ≡ Some w → spot.role ≡ role → judged h'.limit spot w ≡ Good
      → r.storage m n → InRole r role d e → Related r (entered h spot w role m d) (entered h' spot w role n e)
  entered_related spot w None m n d e there alone good s i =
      rw (← both.prefix, ← both.answer d e (order_of h.prefix spot w) i)
      (answered_related spot w (h.machine.answer d (order_of h.prefix spot w)) m n d e there alone good refl s i)
  entered_related spot w (Some t) m n d e there role good s i = moving_on _ None m n d e s (both.goes_on d e spot w t i)

  obeyed_related : (spot : NextCcw) (w : Ccw) (verdict : Verdict) (m n : Memory) (d : D) (e : E)
      → form'.text n spot.at ≡ Some w → judged h'.limit spot w ≡ verdict
      → r.storage m n → InRole r spot.role d e → Related r (obeyed h spot w verdict m d) (obeyed h' spot w verdict n e)
  obeyed_related spot w Bad m n d e there same s i = fails_related spot.role spot.at m n d e s i
  obeyed_related spot w Jump m n d e there same s i = fetching _ m n d e s i
  obeyed_related spot w Good m n d e there same s i = entered_related spot w spot.role m n d e there refl same s i

  fetched_related : (spot : NextCcw) (found : Option Ccw) (m n : Memory) (d : D) (e : E) → form'.text n spot.at ≡ found
      → r.storage m n → InRole r spot.role d e → Related r (fetched h spot found m d) (fetched h' spot found n e)
  fetched_related spot None m n d e there s i = fails_related spot.role spot.at m n d e s i
  fetched_related spot (Some w) m n d e there s i = rw both.limit
      (obeyed_related spot w (judged h'.limit spot w) m n d e there refl s i)

  counted_related : (p : Position) (b : Option ℕ) (left : ℕ) (m n : Memory) (d : D) (e : E) → r.storage m n
      → p.count ≡ 0 → r.busy p b d e → Related r (counted_out h p left m d) (counted_out h' (moved_to p b) left n e)
  counted_related p b left m n d e s none busy = by_chain (chains_data p.word) refl
    where
      by_chain : (chains : Bool) → chains_data p.word ≡ chains
          → Related r (if chains then Fetching (record {
            at = p.word.next;
            role = Some p.transfer;
            jumped = false;
            started = p.started;
          }) m d else closes h (not (left == 0) && tells_length p) p m d)
          (if chains then Fetching (record {
            at = p.word.next;
            role = Some p.transfer;
            jumped = false;
            started = p.started;
          }) n e else closes h' (not (left == 0) && tells_length p) (moved_to p b) n e)
      by_chain true same = fetching _ m n d e s (both.waits d e p b same busy)
      by_chain false same = closes_related _ p b m n d e s (inl none) busy

  moved_related : (p : Position) (b : Option ℕ) (count left : ℕ) (m n : Memory) (d : D) (e : E) → r.storage m n
      → p.count ≡ count → rest h.machine p d ≡ left → r.busy p b d e
      → Related r (moved h p (form.place m p) (form.load m p) count left m d)
      (moved h' (moved_to p b) (form'.place n (moved_to p b)) (form'.load n (moved_to p b)) count left n e)
  moved_related p b zero left m n d e s counted wanted busy = counted_related p b left m n d e s counted busy
  moved_related p b (suc count) zero m n d e s counted wanted busy = closes_related (tells_length p) p b m n d e s
      (inr wanted) busy
  moved_related p b (suc count) (suc left) m n d e s counted wanted busy = both.byte m n d e p b s counted wanted busy

  rest_same : (p : Position) (x y : Bool) → x ≡ y → (if x then 0 else p.transfer.left) ≡
      (if y then 0 else p.transfer.left)
  rest_same p x y e = ap (λ (z : Bool). if z then 0 else p.transfer.left) e

  next_related : (s : State D) (t : State E) → Related r s t → Related r (next form h s) (next form' h' t)
  next_related _ _ (fetching spot m n d e s i) = rw (both.text m n spot.at s)
      (fetched_related spot (form'.text n spot.at) m n d e refl s i)
  next_related _ _ (moving_on p b m n d e s busy) =
      rw (← rest_same p (h.machine.done d) (h'.machine.done e) (both.done d e p b busy))
      (moved_related p b p.count (rest h.machine p d) m n d e s refl refl busy)
  next_related _ _ (over end m n d e s i) = over end m n d e s i

  -- Walks that begin together stay together.
  pub walk_related : (k : ℕ) (s : State D) (t : State E) → Related r s t
      → Related r (walk form h k s) (walk form' h' k t)
  walk_related zero s t related = related
  walk_related (suc k) s t related = walk_related k (next form h s) (next form' h' t) (next_related s t related)
