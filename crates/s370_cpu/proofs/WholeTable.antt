-- From the rows of the table, each of which is lawful, to the laws of the whole.
use Rattle.std.proofs.Common.{◌≡◌, ◌≢◌, ℕ, ◌+◌, ◌/◌, ◌<◌, ◌≤◌, Bool, true, false, List, [], ◌∷◌, length, get_or, Option}
use Rattle.std.proofs.Common.{Some, None, Result, Ok, Err, refl, sym, ◌∙◌, ap, subst, arith, inl, inr}
use Rattle.std.specs.Prelude.{if◌then◌else◌}
use Rattle.std.proofs.lemmas.Bool.{cases_eq, and_parts}
use Rattle.s370_psw.specs.declared.ProgramCode.{ProgramCode}
use Rattle.s370_store.specs.Access.{Test, are_addressable, are_permitted, is_passed, put}
use Rattle.s370_store.specs.declared.Access.{Access}
use Rattle.s370_store.specs.declared.Access.TheVariants.{Store}
use Rattle.s370_store.specs.declared.Fault.TheVariants.{Addressing, Protection}
use Rattle.s370_store.proofs.Verdicts.{byte_inside, byte_passes, store_matches}
use Rattle.s370_store.proofs.Puts.{length-put, put-nothing, changed_within}
use Rattle.s370_rows.specs.declared.ending.Completion.{Completion}
use Rattle.s370_rows.specs.declared.ending.Completion.TheVariants.{Done, Branch, Again, Interrupted, SupervisorCall}
use Rattle.s370_rows.specs.declared.ending.Completion.TheVariants.{InputOutput}
use Rattle.s370_rows.specs.declared.instruction.Instruction.{Instruction}
use Rattle.s370_rows.specs.declared.place.Place.{Place}
use Rattle.s370_rows.specs.State.{State}
use Rattle.s370_rows.specs.Rows.{Left, Stored, Outcome, judged, unless, outcome_of, after, stored, fault_of, code_of}
use Rattle.s370_cpu.specs.Fetch.{fetched, halfwords_of}
use Rattle.s370_cpu.specs.Execute.{executed}
use Rattle.s370_cpu.specs.Opcodes.{opcode_at}
use Rattle.s370_cpu.specs.Table.{row_of, unit}
use Rattle.s370_cpu.specs.Unit.{concluded, carried, place_at, unit_executed, unit_fetched}
use Rattle.s370_cpu.specs.Laws.{Does, IsTestedForStoring, ChangedBytesWereTested, StorageKeepsItsSize, IsProtected}
use Rattle.s370_cpu.specs.Laws.{ProtectionHolds, UnitsAreProtected, StaysInItsRights, ProblemStateHolds}
use Rattle.s370_cpu.specs.Laws.{UnitsStayInTheirRights}
use Rattle.s370_cpu.proofs.Lawful.{AreTested, IsLawful, LeavesLawful, row_lawful}

-- ---- ranges that pass

pass_both : (inside permitted : Bool) → code_of (if inside then
    (if permitted then None else Some Protection) else Some Addressing) ≡ None → (inside ≡ true) × (permitted ≡ true)
pass_both true true e = (refl, refl)
pass_both true false e = (refl, cc)
pass_both false permitted e = (cc, cc)

-- a byte of a range that was tested for storing, where the tests pass
tested_byte : (size : ℕ) (keys : List ℕ) (key : ℕ) (ts : List Test) (a : ℕ) → are_addressable size ts ≡ true
    → are_permitted keys key ts ≡ true → IsTestedForStoring ts a → (a < size)
    × (is_passed Store key (get_or keys (a / 2048) 0) ≡ true)
tested_byte size keys key [] a e p h = absurd h
tested_byte size keys key (t ∷ ts) a e p (inl x) =
    let inside = and_parts _ _ e in
    let permitted = and_parts _ _ p in (
      byte_inside size t a inside.0 x.1 x.2,
      subst (λ (c : Access). is_passed c key (get_or keys (a / 2048) 0) ≡ true)
          x.0 (byte_passes keys key t a permitted.0 x.1 x.2),
    )
tested_byte size keys key (t ∷ ts) a e p (inr x) =
    let inside = and_parts _ _ e in let permitted = and_parts _ _ p in
    tested_byte size keys key ts a inside.1 permitted.1 x

-- ---- stores

-- no byte is changed but those that were tested for storing
record Keeps (ts : List Test) (old new : List ℕ) : Type 0 where
  size : length new ≡ length old
  changed : (a : ℕ) → get_or new a 0 ≢ get_or old a 0 → IsTestedForStoring ts a

put_keeps : (ts : List Test) (bytes : List ℕ) (start : ℕ) (xs : List ℕ)
    → ((a : ℕ) → IsTestedForStoring ts a → a < length bytes)
    → ((a : ℕ) → start ≤ a → a < start + length xs → IsTestedForStoring ts a) → Keeps ts bytes (put bytes start xs)
put_keeps ts bytes start [] room each = rw (put-nothing bytes start)
    (record { size = refl; changed = λ a c. absurd (c refl) })
put_keeps ts bytes start (x ∷ xs) room each =
    let last : start + length xs < length bytes = room (start + length xs)
    (each (start + length xs) (omega arith) (omega arith)) in
    let fits : start + length (x ∷ xs) ≤ length bytes = omega arith in
    record {
      size = length-put bytes (x ∷ xs) start fits;
      changed = λ a c. (let within = changed_within bytes (x ∷ xs) start a fits c in each a within.0 within.1);
    }

stores_keep : (ts : List Test) (ss : List Stored) (bytes : List ℕ)
    → ((a : ℕ) → IsTestedForStoring ts a → a < length bytes) → AreTested ts ss → Keeps ts bytes (stored ss bytes)
stores_keep ts [] bytes room each = record { size = refl; changed = λ a c. absurd (c refl) }
stores_keep ts (s ∷ ss) bytes room each =
    let once = put bytes s.start s.written in
    let one : Keeps ts bytes once = put_keeps ts bytes s.start s.written room each.0 in
    let others : Keeps ts once (stored ss once) = stores_keep ts ss once (λ a h. rw one.size (room a h)) each.1 in
    record {
      size = others.size ∙ one.size;
      changed = λ a c. elim (cases_eq (get_or once a 0) (get_or bytes a 0)) [
        | inl same ↦ others.changed a (λ d. c (d ∙ same))
        | inr differs ↦ one.changed a differs
      ];
    }

-- ---- outcomes

-- what an outcome is made of
record Made (m : State) (ts : List Test) (leaves : Result Left ProgramCode) (o : Outcome) : Type 0 where
  left : Left
  passes : fault_of m ts ≡ None
  is_left : leaves ≡ Ok left
  state : o.state ≡ after m left

state_in : State → Result Outcome ProgramCode → State
state_in m (Ok o) = o.state
state_in m (Err code) = m

made : (m : State) (ts : List Test) (refused fault : Option ProgramCode) (leaves : Result Left ProgramCode)
    (o : Outcome) → fault_of m ts ≡ fault → outcome_of m (unless refused (unless fault leaves)) ≡ Ok o
    → Made m ts leaves o
unfolding state_in
made m ts None None (Ok l) o f e = record { left = l; passes = f; is_left = refl; state = sym (ap (state_in m) e) }
made m ts None None (Err code) o f e = absurd (cc)
made m ts None (Some code) leaves o f e = absurd (cc)
made m ts (Some code) fault leaves o f e = absurd (cc)

-- an outcome is lawful: no byte is changed but those that were tested for storing, and the tests of these pass
record IsLawfulOutcome (m : State) (ts : List Test) (o : Outcome) : Type 0 where
  keeps : Keeps ts m.bytes o.state.bytes
  matches : (a : ℕ) → IsTestedForStoring ts a → is_passed Store m.cpu.psw.key (get_or m.keys (a / 2048) 0) ≡ true
  rights : StaysInItsRights m o.state

left_lawful : (m : State) (ts : List Test) (leaves : Result Left ProgramCode) (o : Outcome) → LeavesLawful m ts leaves
    → Made m ts leaves o → IsLawfulOutcome m ts o
left_lawful m ts leaves o h made =
    let lawful : IsLawful m ts made.left = subst (λ (x : Result Left ProgramCode). LeavesLawful m ts x) made.is_left h
    in
    let pass = pass_both (are_addressable (length m.bytes) ts) (are_permitted m.keys m.cpu.psw.key ts) made.passes in
    let byte : (a : ℕ) → IsTestedForStoring ts a → (a < length m.bytes)
    × (is_passed Store m.cpu.psw.key (get_or m.keys (a / 2048) 0) ≡ true) = λ a t. tested_byte
    (length m.bytes) m.keys m.cpu.psw.key ts a pass.0 pass.1 t in
    record {
      keeps = rw made.state (stores_keep ts made.left.stores m.bytes (λ a t. (byte a t).0) lawful.stores);
      matches = λ a t. (byte a t).1;
      rights = rw made.state lawful.rights;
    }

outcome_lawful : (m : State) (place : Place) (i : Instruction) (o : Outcome) → Does m place i o
    → IsLawfulOutcome m (row_of m place i).tests o
outcome_lawful m place i o e =
    let r = row_of m place i in
    left_lawful m r.tests r.leaves o (row_lawful (opcode_at i.opcode) m place i)
    (made m r.tests r.refused (fault_of m r.tests) r.leaves o refl e)

-- ---- the laws over instructions

-- Each byte that an instruction changes was tested.
pub changed_bytes_were_tested : ChangedBytesWereTested
changed_bytes_were_tested m place i o a e c = (outcome_lawful m place i o e).keeps.changed a c

-- No instruction changes the size of storage.
pub storage_keeps_its_size : StorageKeepsItsSize
storage_keeps_its_size m place i o e = (outcome_lawful m place i o e).keeps.size

-- No instruction changes a byte that its key protects.
pub protection_holds : ProtectionHolds
protection_holds m place i o a e some c =
    let lawful = outcome_lawful m place i o e in
    store_matches m.cpu.psw.key (get_or m.keys (a / 2048) 0) (lawful.matches a (lawful.keeps.changed a c)) some

-- A program in the problem state stays in it.
pub problem_state_holds : ProblemStateHolds
problem_state_holds m place i o e = (outcome_lawful m place i o e).rights

-- ---- the laws over units

record IsLawfulState (old new : State) : Type 0 where
  bytes : (a : ℕ) → IsProtected old new a
  rights : StaysInItsRights old new

same_lawful : (m : State) → IsLawfulState m m
same_lawful m = record { bytes = λ a some c. absurd (c refl); rights = λ problem. refl }

-- where a unit goes on is no matter
ended_lawful : (m : State) (place : Place) (ending : Completion) (s : State) → IsLawfulState m s
    → IsLawfulState m (concluded m place (Ok (record { ending = ending; state = s }))).state
ended_lawful m place Done s h = record { bytes = h.bytes; rights = h.rights }
ended_lawful m place (Branch a) s h = record { bytes = h.bytes; rights = h.rights }
ended_lawful m place Again s h = record { bytes = h.bytes; rights = h.rights }
ended_lawful m place (Interrupted code) s h = record { bytes = h.bytes; rights = h.rights }
ended_lawful m place (SupervisorCall n) s h = record { bytes = h.bytes; rights = h.rights }
ended_lawful m place (InputOutput operation device) s h = record { bytes = h.bytes; rights = h.rights }

concluded_lawful : (m : State) (place : Place) (r : Result Outcome ProgramCode)
    → ((o : Outcome) → r ≡ Ok o → IsLawfulState m o.state) → IsLawfulState m (concluded m place r).state
concluded_lawful m place (Err code) h = record { bytes = λ a some c. absurd (c refl); rights = λ problem. refl }
concluded_lawful m place (Ok o) h = ended_lawful m place o.ending o.state (h o refl)

carried_lawful : (m : State) (place : Place) (i : Instruction) → IsLawfulState m (carried row_of m place i).ran.state
carried_lawful m place i =
    concluded_lawful m place (outcome_of m (judged m (row_of m place i)))
    (λ o e. record { bytes = λ a. protection_holds m place i o a e; rights = problem_state_holds m place i o e })

executed_lawful : (m : State) (ss : List (List Test)) (place : Place) (r : Result Instruction ProgramCode)
    → IsLawfulState m (unit_executed row_of m ss place r).ran.state
executed_lawful m ss place (Err code) = concluded_lawful m place (Err code) (λ o e. absurd (cc))
executed_lawful m ss place (Ok i) = carried_lawful m place i

fetched_lawful : (m : State) (ss : List (List Test)) (r : Result Instruction ProgramCode)
    → IsLawfulState m (unit_fetched row_of m ss r).ran.state
fetched_lawful m ss (Err code) = same_lawful m
fetched_lawful m ss (Ok i) = let x = executed m i in executed_lawful m _ (place_at m (halfwords_of i.opcode)) x.result

unit_lawful : (m : State) → IsLawfulState m (unit m).ran.state
unit_lawful m = let f = fetched m m.cpu.psw.address in fetched_lawful m f.stages f.result

-- Units change no byte that their key protects.
pub units_are_protected : UnitsAreProtected
units_are_protected m a = (unit_lawful m).bytes a

-- Units leave their rights as they were.
pub units_stay_in_their_rights : UnitsStayInTheirRights
units_stay_in_their_rights m = (unit_lawful m).rights
