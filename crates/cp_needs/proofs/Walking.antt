-- The walk of a program that leaves its own words as they are.
use Rattle.std.specs.Prelude.{ℕ, zero, suc, ◌+◌, ◌-◌, ◌*◌, ◌%◌, ◌<◌, ◌≤◌, ◌≡◌, ◌==◌, Bool, true, false, ◌&&◌, ◌||◌, not}
use Rattle.std.specs.Prelude.{nat_lt, if◌then◌else◌, [], ◌∷◌, length, Option, None, Some, refl}
use Rattle.std.proofs.Common.{ap, ◌∙◌, sym, inl, inr, arith}
use Rattle.std.proofs.lemmas.Bool.{true≢false}
use Rattle.s370_store.specs.declared.Access.TheVariants.{Fetch, Store}
use Rattle.s370_store.specs.declared.Fault.{Fault}
use Rattle.s370_store.specs.declared.Fault.TheVariants.{Addressing, Protection, Absent}
use Rattle.s370_store.specs.Access.{Touches}
use Rattle.s370_store.proofs.Verdicts.{fits}
use Rattle.s370_walk.specs.declared.bits.UnitStatus.{UnitStatus}
use Rattle.s370_walk.specs.declared.parts.Answer.{Answer}
use Rattle.s370_walk.specs.declared.parts.Answer.TheVariants as answers
use Rattle.s370_walk.specs.declared.parts.Direction.{Direction}
use Rattle.s370_walk.specs.declared.parts.Direction.TheVariants.{Gives, Takes, TakesUpTo}
use Rattle.s370_walk.specs.declared.parts.Position.{Position}
use Rattle.s370_walk.specs.declared.parts.Progress.TheVariants.{At, Ended}
use Rattle.s370_walk.specs.declared.parts.NextCcw.{NextCcw}
use Rattle.s370_walk.specs.declared.parts.Transfer.{Transfer}
use Rattle.s370_walk.specs.declared.parts.Ccw.{Ccw}
use Rattle.s370_walk.specs.Bits.{has_bits}
use Rattle.s370_walk.specs.Blocks.{after, begins_block, block_number, served}
use Rattle.s370_store.specs.Memory.{Memory}
use Rattle.s370_walk.specs.Hardware.{Machine, area, fault_of}
use Rattle.s370_walk.specs.Stuck.{IsStuck, IsAsked, byte_asks, is_skipped, moves, size_in}
use Rattle.s370_walk.specs.Walk.{Setting, State, Fetching, Moving, Over, Bad, Jump, Good, next, walk, live, place_in}
use Rattle.s370_walk.specs.Walk.{fetched, obeyed, entered, answered, judged, fails, closed, closes, state_of}
use Rattle.s370_walk.specs.Walk.{at_command, moved, counted_out, byte_moved, given_to, given_at, taken_from, taken_at}
use Rattle.s370_walk.specs.Walk.{stepped, rest, moving, skips, tells_length, chains_data, chains_command, order_of}
use Rattle.s370_walk.specs.Walk.{ending, index_of, is_bad_word, is_bad_in_role, is_indirect, is_jump, no_check}
use Rattle.s370_walk.specs.Walk.{no_status}
use Rattle.s370_channel.specs.Guest.{area_block, block_asks, guest_text, guest_written, later}
use Rattle.s370_walk.specs.Renaming.{Leads}
use Rattle.cp_needs.specs.Closure.{starts, jumps, continues_at, commands_at, skips_to}
use Rattle.cp_needs.proofs.Tables.{text_plain}
use Rattle.s370_walk.specs.Tracks.{has_area}
use Rattle.cp_needs.specs.Areas.{byte_place, IsBefore}
use Rattle.cp_needs.specs.Needs.{IsFixed, IsHeld, IsProgramPage, IsReached}
use Rattle.cp_needs.specs.Laws.{IsSteadyInWords}
use Rattle.cp_needs.specs.Kept.{IsKept}
use Rattle.cp_needs.proofs.Keeping.{kept_block, kept_first, kept_put, kept_word}

-- ---- Where the next byte lies

-- A byte after the first is placed by the byte before it.
pub place_next : (list : ℕ → Option ℕ) (k j b : ℕ) → k ≡ suc j → byte_place list j ≡ Some b
    → byte_place list k ≡ served list k (Some b)
place_next list k j b after is = rw (after, is) refl

-- The first byte of a block is placed by its list entry.
pub place_first : (list : ℕ → Option ℕ) (k : ℕ) → k ≡ 0 → list (block_number k) ≡ byte_place list k
place_first list k none = rw none refl

-- Where a program is whose word is being obeyed.
pub record IsCourse (m0 : Memory) (start : ℕ) (p : Position) : Type 0 where
  pub there : IsReached m0 start p.at
  pub word : guest_text m0 p.at ≡ Some p.word
  pub plain : is_jump p.word ≡ false
  pub has : has_area p.word ≡ true
  pub within : p.count ≤ p.word.count
  pub before : is_skipped p p.transfer.kind ≡ false → IsBefore (area_block m0 p.word) (index_of p) p.before

-- the next byte lies where it lay at first
pub place_kept : (m0 : Memory) (start : ℕ) (m : Memory) (p : Position) → IsKept m0 start m → IsCourse m0 start p
    → 0 < p.count → is_skipped p p.transfer.kind ≡ false
    → place_in guest_written m p ≡ byte_place (area_block m0 p.word) (index_of p)
place_kept m0 start m p kept x some plain = by_before p.before (x.before plain)
  where
    list : ℕ → Option ℕ
    list = area_block m0 p.word

    counted : index_of p < p.word.count
    counted = (let within = x.within in omega (arith, within, some))

    by_end : (b : ℕ) (ends : Bool) → (b % 2048 == 2047) ≡ ends → IsBefore list (index_of p) (Some b)
        → (if ends then area_block m p.word (block_number (index_of p)) else after (Some b))
        ≡ (if ends then list (block_number (index_of p)) else after (Some b))
    by_end b true e is = kept_block m0 start m p.at p.word (index_of p) kept x.there x.word x.has counted
        (record { before = Some b; is = is; begins = e })
    by_end b false e is = refl

    by_before : (before : Option ℕ) → IsBefore list (index_of p) before
        → served (area_block m p.word) (index_of p) before ≡ byte_place list (index_of p)
    by_before None none =
        kept_block m0 start m p.at p.word (index_of p) kept x.there x.word x.has counted
        (record { before = None; is = none; begins = refl })
        ∙ place_first list (index_of p) none
    by_before (Some b) (j, after, is) =
        by_end b (b % 2048 == 2047) refl (j, after, is) ∙ sym (place_next list (index_of p) j b after is)

some_left : (count : ℕ) (x y : Bool) → nat_lt 0 count && x && y ≡ true → 0 < count
some_left zero x y e = cc
some_left (suc n) x y e = omega arith

not_skipped : (x y : Bool) → x && not y ≡ true → y ≡ false
not_skipped true false e = refl
not_skipped true true e = cc
not_skipped false y e = cc

moves_some : {D : Type 0} (machine : Machine D) (p : Position) (d : D) → moves machine p d ≡ true → 0 < p.count
moves_some machine p d e = some_left p.count (nat_lt 0 (rest machine p d)) (not (is_skipped p p.transfer.kind)) e

moves_plain : {D : Type 0} (machine : Machine D) (p : Position) (d : D) → moves machine p d ≡ true
    → is_skipped p p.transfer.kind ≡ false
moves_plain machine p d e =
    not_skipped (nat_lt 0 p.count && nat_lt 0 (rest machine p d)) (is_skipped p p.transfer.kind) e

not_off : (zero_count flags off role : Bool) → ((zero_count || flags || off) || role) ≡ false → off ≡ false
not_off true flags off role e = cc
not_off false true off role e = cc
not_off false false true role e = cc
not_off false false false role e = refl

-- where a word leads, there the program can come
pub leads_of : (m0 : Memory) (start at : ℕ) (w : Ccw) → IsReached m0 start at → guest_text m0 at ≡ Some w
    → Leads (IsReached m0 start) w
leads_of m0 start at w (continues, reached) text =
    record {
      jump = λ is even. (continues, jumps at continues w reached text is even);
      data_next = λ e. (true, continues_at at continues w reached text (plain_data (is_jump w) refl e) e);
      command_next = λ e f. (false, commands_at at continues w reached text (plain_command (is_jump w) refl e) e f);
      skipped = λ e f. (false, skips_to at continues w reached text (plain_command (is_jump w) refl e) e f);
    }
  where
    plain_data : (b : Bool) → is_jump w ≡ b → chains_data w ≡ true → is_jump w ≡ false
    plain_data true is e = (let no : true ≡ false = sym e ∙ (text_plain m0 at w text).chained is in cc)
    plain_data false is e = is

    plain_command : (b : Bool) → is_jump w ≡ b → chains_command w ≡ true → is_jump w ≡ false
    plain_command true is e = (let no : true ≡ false = sym e ∙ (text_plain m0 at w text).commands is in cc)
    plain_command false is e = is

-- ---- One step

module _ {D : Type 0} (m0 : Memory) (start : ℕ) (h : Setting D) where
  abbrev pub IsOn : State D → Type 0
  IsOn (Fetching spot m d) = IsKept m0 start m × IsReached m0 start spot.at
  IsOn (Moving p m d) = IsKept m0 start m × IsCourse m0 start p
  IsOn (Over e m d) = Unit {0}

  fails_on : (role : Option Transfer) (at : ℕ) (m : Memory) (d : D) → IsOn (fails h role at m d)
  fails_on None at m d = tt
  fails_on (Some t) at m d = tt

  closed_on : (wrong : Bool) (status : UnitStatus) (at started : ℕ) (w : Ccw) (count : ℕ) (m : Memory) (d : D)
      → IsKept m0 start m → Leads (IsReached m0 start) w
      → IsOn (state_of {D = D} (closed h.prefix wrong status at started w count) m d)
  closed_on true status at started w count m d kept leads = tt
  closed_on false status at started w count m d kept leads =
      by_chain (chains_command w) (chains_data w) (not (has_bits status.bits 3)) (has_bits status.bits 64)
      leads.command_next leads.skipped
    where
      by_chain : (chains more may over : Bool) → (chains ≡ true → more ≡ false → IsReached m0 start w.next)
          → (chains ≡ true → more ≡ false → IsReached m0 start w.skipped)
          → IsOn (state_of {D = D}
          (if chains && not more && may then At (at_command h.prefix (if over then w.skipped else w.next) started)
          else Ended (ending at status no_check count)) m d)
      by_chain true false true true n s = (kept, s refl refl)
      by_chain true false true false n s = (kept, n refl refl)
      by_chain true false false over n s = tt
      by_chain true true may over n s = tt
      by_chain false more may over n s = tt

  begin_on : (spot : NextCcw) (started : ℕ) (w : Ccw) (t : Transfer) → IsReached m0 start spot.at
      → guest_text m0 spot.at ≡ Some w → is_jump w ≡ false → has_area w ≡ true
      → IsCourse m0 start (moving spot started w t)
  begin_on spot started w t there text plain has =
      let none : w.count - w.count ≡ 0 = omega arith in
      record { there = there; word = text; plain = plain; has = has; within = omega arith; before = λ e. none }

  answered_on : (spot : NextCcw) (w : Ccw) (answer : Answer) (m : Memory) (d : D) → IsKept m0 start m
      → IsReached m0 start spot.at → guest_text m0 spot.at ≡ Some w → is_jump w ≡ false → has_area w ≡ true
      → IsOn (answered h.prefix spot w answer m d)
  answered_on spot w (answers.Refused status) m d kept there text plain has = tt
  answered_on spot w answers.Immediate m d kept there text plain has =
      closed_on false no_status spot.at (spot.started + 1) w w.count m d kept (leads_of m0 start spot.at w there text)
  answered_on spot w (answers.Input n) m d kept there text plain has = (kept, begin_on spot _ w _ there text plain has)
  answered_on spot w (answers.Output n) m d kept there text plain has = (kept, begin_on spot _ w _ there text plain has)
  answered_on spot w (answers.OutputUpTo n) m d kept there text plain has =
      (kept, begin_on spot _ w _ there text plain has)

  entered_on : (spot : NextCcw) (w : Ccw) (role : Option Transfer) (m : Memory) (d : D) → IsKept m0 start m
      → IsReached m0 start spot.at → guest_text m0 spot.at ≡ Some w → is_jump w ≡ false → has_area w ≡ true
      → IsOn (entered h spot w role m d)
  entered_on spot w None m d kept there text plain has =
      answered_on spot w (h.machine.answer d (order_of h.prefix spot w)) m
      (h.machine.started d (order_of h.prefix spot w)) kept there text plain has
  entered_on spot w (Some t) m d kept there text plain has = (kept, begin_on spot _ w _ there text plain has)

  obeyed_on : (spot : NextCcw) (w : Ccw) (m : Memory) (d : D) → IsKept m0 start m → IsReached m0 start spot.at
      → guest_text m0 spot.at ≡ Some w → IsOn (obeyed h spot w (judged h.limit spot w) m d)
  obeyed_on spot w m d kept there text =
      by_jump (is_jump w) refl spot.jumped (w.address % 8 == 0) (leads_of m0 start spot.at w there text).jump
    where
      by_bad : (b : Bool) → (is_bad_word w || is_bad_in_role h.limit spot.started w spot.role) ≡ b → is_jump w ≡ false
          → IsOn (obeyed h spot w (if b then Bad else Good) m d)
      by_bad true e plain = fails_on spot.role spot.at m d
      by_bad false e plain =
          let off : (is_indirect w && not (w.address % 4 == 0)) ≡ false =
          not_off (w.count == 0) (has_bits w.flags.bits 11) _ (is_bad_in_role h.limit spot.started w spot.role) e in
          entered_on spot w spot.role m d kept there text plain (rw (plain, off) refl)

      by_jump : (jumps : Bool) → is_jump w ≡ jumps → (again even : Bool)
          → (jumps ≡ true → even ≡ true → IsReached m0 start w.next)
          → IsOn (obeyed h spot w (if jumps then (if again || not even then Bad else Jump)
          else (if is_bad_word w || is_bad_in_role h.limit spot.started w spot.role then Bad else Good)) m d)
      by_jump true is true even n = fails_on spot.role spot.at m d
      by_jump true is false false n = fails_on spot.role spot.at m d
      by_jump true is false true n = (kept, n refl refl)
      by_jump false is again even n = by_bad (is_bad_word w || is_bad_in_role h.limit spot.started w spot.role) refl is

  fetched_on : (spot : NextCcw) (found : Option Ccw) (m : Memory) (d : D) → IsKept m0 start m
      → IsReached m0 start spot.at → guest_text m0 spot.at ≡ found → IsOn (fetched h spot found m d)
  fetched_on spot None m d kept there text = fails_on spot.role spot.at m d
  fetched_on spot (Some w) m d kept there text = obeyed_on spot w m d kept there text

  -- one byte further
  step_on : (p : Position) (a : ℕ) → IsCourse m0 start p → 0 < p.count
      → byte_place (area_block m0 p.word) (index_of p) ≡ Some a → IsCourse m0 start (stepped p (Some a))
  step_on p a x some at =
      let within = x.within in
      let more : p.word.count - (p.count - 1) ≡ suc (p.word.count - p.count) = omega (arith, within, some) in
      record {
        there = x.there;
        word = x.word;
        plain = x.plain;
        has = x.has;
        within = omega (arith, within);
        before = λ e. (index_of p, more, at);
      }

  skip_on : (p : Position) → IsCourse m0 start p → is_skipped p p.transfer.kind ≡ true
      → IsCourse m0 start (stepped p p.before)
  skip_on p x skipped =
      let within = x.within in
      record {
        there = x.there;
        word = x.word;
        plain = x.plain;
        has = x.has;
        within = omega (arith, within);
        before = λ e. (let no : true ≡ false = sym skipped ∙ e in cc);
      }

  given_at_on : (p : Position) (a : ℕ) (fault : Option Fault) (m : Memory) (d : D)
      → fault_of m h.key (area Store a 1) ≡ fault → IsFixed m0 start → IsKept m0 start m → IsCourse m0 start p
      → 0 < p.count → skips p.word ≡ false
      → byte_place (area_block m0 p.word) (index_of p) ≡ Some a → IsOn (given_at h p a fault m d)
  given_at_on p a None m d fine fixed kept x some stores at =
      let within = x.within in
      let inside : a + 1 ≤ length m.bytes = fits (length m.bytes) m.keys h.key Store a 1 fine (omega arith) in (
        kept_put m0 start m a (h.machine.gives d) kept (omega (arith, inside))
            (λ other reached byte. fixed (record {
              address = p.at;
              reached = x.there;
              word = p.word;
              text = x.word;
              stores = stores;
              byte = a;
              inside = (let size = kept.size in omega (arith, inside, size));
              data_byte = record { byte = index_of p; has = x.has; counted = omega (arith, within, some); at = at };
              other = other;
              other_reached = reached;
              text_byte = byte;
            })),
        step_on p a x some at,
      )
  given_at_on p a (Some Addressing) m d fine fixed kept x some stores at = tt
  given_at_on p a (Some Protection) m d fine fixed kept x some stores at = tt
  given_at_on p a (Some (Absent page)) m d fine fixed kept x some stores at = tt

  given_on : (p : Position) (place : Option ℕ) (m : Memory) (d : D) → IsFixed m0 start → IsKept m0 start m
      → IsCourse m0 start p → 0 < p.count → skips p.word ≡ false
      → byte_place (area_block m0 p.word) (index_of p) ≡ place → IsOn (given_to h p place m d)
  given_on p None m d fixed kept x some stores at = tt
  given_on p (Some a) m d fixed kept x some stores at =
      given_at_on p a (fault_of m h.key (area Store a 1)) m d refl fixed kept x some stores at

  taken_at_on : (p : Position) (a : ℕ) (load : ℕ → ℕ) (fault : Option Fault) (m : Memory) (d : D) → IsKept m0 start m
      → IsCourse m0 start p → 0 < p.count
      → byte_place (area_block m0 p.word) (index_of p) ≡ Some a → IsOn (taken_at h p a load fault m d)
  taken_at_on p a load None m d kept x some at = (kept, step_on p a x some at)
  taken_at_on p a load (Some Addressing) m d kept x some at = tt
  taken_at_on p a load (Some Protection) m d kept x some at = tt
  taken_at_on p a load (Some (Absent page)) m d kept x some at = tt

  taken_on : (p : Position) (place : Option ℕ) (load : ℕ → ℕ) (m : Memory) (d : D) → IsKept m0 start m
      → IsCourse m0 start p → 0 < p.count
      → byte_place (area_block m0 p.word) (index_of p) ≡ place → IsOn (taken_from h p place load m d)
  taken_on p None load m d kept x some at = tt
  taken_on p (Some a) load m d kept x some at =
      taken_at_on p a load (fault_of m h.key (area Fetch a 1)) m d kept x some at

  byte_on : (p : Position) (place : Option ℕ) (load : ℕ → ℕ) (kind : Direction) (m : Memory) (d : D) → IsFixed m0 start
      → IsKept m0 start m → IsCourse m0 start p → 0 < p.count → p.transfer.kind ≡ kind
      → (is_skipped p kind ≡ false → byte_place (area_block m0 p.word) (index_of p) ≡ place)
      → IsOn (byte_moved h p place load kind m d)
  byte_on p place load Gives m d fixed kept x some kind at = by_skip (skips p.word) refl
    where
      by_skip : (b : Bool) → skips p.word ≡ b
          → IsOn (if b then Moving (stepped p p.before) m (h.machine.gave d) else given_to h p place m d)
      by_skip true e = (kept, skip_on p x (ap (is_skipped p) kind ∙ e))
      by_skip false e = given_on p place m d fixed kept x some e (at e)
  byte_on p place load Takes m d fixed kept x some kind at = taken_on p place load m d kept x some (at refl)
  byte_on p place load TakesUpTo m d fixed kept x some kind at = taken_on p place load m d kept x some (at refl)

  closes_on : (wrong : Bool) (p : Position) (m : Memory) (d : D) → IsKept m0 start m → IsCourse m0 start p
      → IsOn (closes h wrong p m d)
  closes_on wrong p m d kept x =
      closed_on wrong (h.machine.status d) p.at p.started p.word p.count m (h.machine.finished d) kept
      (leads_of m0 start p.at p.word x.there x.word)

  counted_on : (p : Position) (left : ℕ) (m : Memory) (d : D) → IsKept m0 start m → IsCourse m0 start p
      → IsOn (counted_out h p left m d)
  counted_on p left m d kept x =
      by_chain (chains_data p.word) (not (left == 0) && tells_length p)
      (leads_of m0 start p.at p.word x.there x.word).data_next
    where
      by_chain : (chains wrong : Bool) → (chains ≡ true → IsReached m0 start p.word.next)
          → IsOn (if chains then Fetching
          (record { at = p.word.next; role = Some p.transfer; jumped = false; started = p.started }) m d
          else closes h wrong p m d)
      by_chain true wrong n = (kept, n refl)
      by_chain false wrong n = closes_on wrong p m d kept x

  moved_on : (p : Position) (place : Option ℕ) (load : ℕ → ℕ) (count left : ℕ) → p.count ≡ count → (m : Memory) (d : D)
      → IsFixed m0 start → IsKept m0 start m → IsCourse m0 start p
      → (0 < p.count → is_skipped p p.transfer.kind ≡ false → byte_place (area_block m0 p.word) (index_of p) ≡ place)
      → IsOn (moved h p place load count left m d)
  moved_on p place load zero left e m d fixed kept x at = counted_on p left m d kept x
  moved_on p place load (suc count) zero e m d fixed kept x at = closes_on (tells_length p) p m d kept x
  moved_on p place load (suc count) (suc left) e m d fixed kept x at =
      let some : 0 < p.count = omega (arith, e) in
      byte_on p place load p.transfer.kind m d fixed kept x some refl (at some)

  pub next_on : (s : State D) → IsFixed m0 start → IsOn s → IsOn (next (live guest_written) h s)
  next_on (Fetching spot m d) fixed on =
      fetched_on spot (guest_text m spot.at) m d on.0 on.1 (sym (kept_word m0 start m spot.at on.0 on.1))
  next_on (Moving p m d) fixed on =
      moved_on p (place_in guest_written m p) ((live guest_written).load m p) p.count (rest h.machine p d) refl m d
      fixed on.0 on.1
      (λ some plain. sym (place_kept m0 start m p on.0 on.1 some plain))
  next_on (Over e m d) fixed on = tt

  pub walk_on : (n : ℕ) (s : State D) → IsFixed m0 start → IsOn s → IsOn (walk (live guest_written) h n s)
  walk_on zero s fixed on = on
  walk_on (suc n) s fixed on = walk_on n (next (live guest_written) h s) fixed (next_on s fixed on)

-- ---- What a step needs

module _ {D : Type 0} (m0 : Memory) (start : ℕ) (h : Setting D) where
  -- a page of the list of a word that is being obeyed
  list_page : (p : Position) (m : Memory) (d : D) (page : ℕ) → IsCourse m0 start p → length m.bytes ≡ length m0.bytes
      → page * 4096 < length m.bytes → moves h.machine p d ≡ true
      → Touches (if begins_block p.before then block_asks p.word (block_number (index_of p)) else []) page
      → IsProgramPage m0 start page
  list_page p m d page x size inside going touched = by_begins (begins_block p.before) refl touched
    where
      asked : (b : Bool) → is_indirect p.word ≡ b → begins_block p.before ≡ true
          → Touches (if b then area Fetch (later p.word.address (4 * block_number (index_of p))) 4 ∷ [] else []) page
          → IsProgramPage m0 start page
      asked false listed begins touches = absurd touches
      asked true listed begins (inr none) = absurd none
      asked true listed begins (inl (k, lt, at)) =
          let some = moves_some h.machine p d going in
          let plain = moves_plain h.machine p d going in
          let within = x.within in
          record {
            address = p.at;
            reached = x.there;
            byte = later p.word.address (4 * block_number (index_of p)) + k;
            needed =
                inl (inr (
                  p.word,
                  x.word,
                  record {
                    byte = index_of p;
                    has = x.has;
                    counted = omega (arith, within, some);
                    begun = record { before = p.before; is = x.before plain; begins = begins };
                    listed = listed;
                    part = k;
                    within = lt;
                    at = refl;
                  },
                ));
            at = at;
            inside = omega (arith, inside, size);
          }

      by_begins : (b : Bool) → begins_block p.before ≡ b
          → Touches (if b then block_asks p.word (block_number (index_of p)) else []) page → IsProgramPage m0 start page
      by_begins false e touches = absurd touches
      by_begins true e touches = asked (is_indirect p.word) refl e touches

  -- a page of its area
  area_page : (p : Position) (m : Memory) (d : D) (page : ℕ) (place : Option ℕ) → IsCourse m0 start p
      → length m.bytes ≡ length m0.bytes → page * 4096 < length m.bytes → 0 < p.count
      → byte_place (area_block m0 p.word) (index_of p) ≡ place → Touches (byte_asks place) page
      → IsProgramPage m0 start page
  area_page p m d page None x size inside some at touches = absurd touches
  area_page p m d page (Some a) x size inside some at (inr none) = absurd none
  area_page p m d page (Some a) x size inside some at (inl (k, lt, is)) =
      let within = x.within in
      record {
        address = p.at;
        reached = x.there;
        byte = a;
        needed = inr (
          p.word,
          x.word,
          record { byte = index_of p; has = x.has; counted = omega (arith, within, some); at = at },
        );
        at = omega (arith, is, lt);
        inside = omega (arith, inside, size);
      }

  asked_page : (s : State D) (page : ℕ) → IsOn m0 start h s → page * 4096 < size_in s
      → IsAsked guest_written h.machine s page → IsProgramPage m0 start page
  asked_page (Fetching spot m d) page on inside (inl (k, lt, at)) =
      let size = on.0.size in
      record {
        address = spot.at;
        reached = on.1;
        byte = spot.at + k;
        needed = inl (inl (k, lt, refl));
        at = at;
        inside = omega (arith, inside, size);
      }
  asked_page (Fetching spot m d) page on inside (inr none) = absurd none
  asked_page (Moving p m d) page on inside (going, inl touches) =
      list_page p m d page on.1 on.0.size inside going touches
  asked_page (Moving p m d) page on inside (going, inr touches) =
      let some = moves_some h.machine p d going in
      let plain = moves_plain h.machine p d going in
      let place = place_kept m0 start m p on.0 on.1 some plain in
      area_page p m d page (place_in guest_written m p) on.1 on.0.size inside some (sym place) touches
  asked_page (Over e m d) page on inside asked = absurd asked

-- If the pages of such a program are present, and its words are as they were, it is never stuck.
pub kept_never_stuck : {D : Type 0} (h : Setting D) (present : ℕ → Bool) (spot : NextCcw) (m0 m : Memory) (d : D)
    (page : ℕ) → IsFixed m0 spot.at → IsHeld m0 spot.at present → IsKept m0 spot.at m
    → IsStuck guest_written h present (Fetching spot m d) page → ⊥
kept_never_stuck {D = D} h present spot m0 m d page fixed held kept stuck =
    let begun : IsOn m0 spot.at h (Fetching spot m d) = (kept, (false, starts)) in
    let walked : IsOn m0 spot.at h (walk (live guest_written) h stuck.comes.steps (Fetching spot m d)) =
    walk_on m0 spot.at h stuck.comes.steps (Fetching spot m d) fixed begun in
    let on : IsOn m0 spot.at h stuck.state = rw (← stuck.comes.comes) walked in
    let yes = held page (asked_page m0 spot.at h stuck.state page on stuck.away.inside stuck.asked) in
    absurd (true≢false (sym yes ∙ stuck.away.away))

-- A fixed program whose pages are present is never stuck.
pub never_stuck : {D : Type 0} (h : Setting D) (present : ℕ → Bool) (spot : NextCcw) (m : Memory) (d : D) (page : ℕ)
    → IsFixed m spot.at → IsHeld m spot.at present → IsStuck guest_written h present (Fetching spot m d) page → ⊥
never_stuck h present spot m d page fixed held stuck =
    kept_never_stuck h present spot m m d page fixed held (kept_first m spot.at) stuck

-- Its words and places are as they were.
pub stays_as_kept : {D : Type 0} (h : Setting D) (spot : NextCcw) (m0 m : Memory) (d : D) → IsFixed m0 spot.at
    → IsKept m0 spot.at m → IsSteadyInWords h m0 (Fetching spot m d)
stays_as_kept {D = D} h spot m0 m d fixed kept =
    record {
      words = λ n to m' d' e. (let on = at n (Fetching to m' d') e in kept_word m0 spot.at m' to.at on.0 on.1);
      places = λ n p m' d' e going. (let on = at n (Moving p m' d') e in
          let some = moves_some h.machine p d' going in
          let plain = moves_plain h.machine p d' going in
          place_kept m0 spot.at m' p on.0 on.1 some plain ∙ sym
          (place_kept m0 spot.at m0 p (kept_first m0 spot.at) on.1 some plain));
    }
  where
    at : (n : ℕ) (s : State D) → walk (live guest_written) h n (Fetching spot m d) ≡ s → IsOn m0 spot.at h s
    at n s e =
        let begun : IsOn m0 spot.at h (Fetching spot m d) = (kept, (false, starts)) in
        let walked : IsOn m0 spot.at h (walk (live guest_written) h n (Fetching spot m d)) =
        walk_on m0 spot.at h n (Fetching spot m d) fixed begun in
        rw (← e) walked

-- A fixed program keeps its words as they were at its beginning.
pub stays_as_begun : {D : Type 0} (h : Setting D) (spot : NextCcw) (m : Memory) (d : D) → IsFixed m spot.at
    → IsSteadyInWords h m (Fetching spot m d)
stays_as_begun h spot m d fixed = stays_as_kept h spot m m d fixed (kept_first m spot.at)
