-- Laws of the whole table, over all states, instructions and outcomes: GA22-7000, "Protection" and
-- "Problem State".
use Rattle.std.specs.Prelude.{◌≡◌, ◌≢◌, ℕ, ◌+◌, ◌/◌, ◌^◌, ◌<◌, ◌≤◌, ◌⊎◌, Bool, true, List, [], ◌∷◌}
use Rattle.std.specs.Prelude.{length, slice_index, All, Contains, Ok}
use Rattle.s370_store.specs.Access.{Test}
use Rattle.s370_store.specs.declared.Access.TheVariants.{Store}
use Rattle.s370_rows.specs.declared.instruction.Instruction.{Instruction}
use Rattle.s370_rows.specs.declared.place.Place.{Place}
use Rattle.s370_rows.specs.State.{State}
use Rattle.s370_rows.specs.Rows.{Outcome, judged, outcome_of}
use Rattle.s370_cpu.specs.Fetch.{Asks}
use Rattle.s370_cpu.specs.Table.{row_of, unit}

-- the instruction at its place is carried out, with this outcome
abbrev pub Does : State → Place → Instruction → Outcome → Type 0
Does m place i o = outcome_of m (judged m (row_of m place i)) ≡ Ok o

-- the byte at an address is not what it was
abbrev pub HasChanged : State → State → ℕ → Type 0
HasChanged old new a = slice_index new.bytes a ≢ slice_index old.bytes a

-- the address lies in a range that is tested for storing
abbrev pub IsTestedForStoring : List Test → ℕ → Type 0
IsTestedForStoring [] a = ⊥
IsTestedForStoring (t ∷ ts) a =
    ((t.access ≡ Store) × (t.start ≤ a) × (a < t.start + t.count)) ⊎ IsTestedForStoring ts a

-- each byte that an instruction changes, it was tested for storing
abbrev pub ChangedBytesWereTested : Type 0
ChangedBytesWereTested = (m : State) (place : Place) (i : Instruction) (o : Outcome) (a : ℕ)
    → Does m place i o → HasChanged m o.state a → IsTestedForStoring (row_of m place i).tests a

-- storage has as many bytes after it as before
abbrev pub StorageKeepsItsSize : Type 0
StorageKeepsItsSize = (m : State) (place : Place) (i : Instruction) (o : Outcome)
    → Does m place i o → length o.state.bytes ≡ length m.bytes

-- with a protection key other than zero a byte changes only in a block whose key in storage has
-- this access control
abbrev pub IsProtected : State → State → ℕ → Type 0
IsProtected old new a =
    old.cpu.psw.key ≢ 0 → HasChanged old new a
    → slice_index old.keys (a / 2048) / 2 ≡ old.cpu.psw.key

-- no instruction changes a byte that its key does not permit
abbrev pub ProtectionHolds : Type 0
ProtectionHolds = (m : State) (place : Place) (i : Instruction) (o : Outcome) (a : ℕ)
    → Does m place i o → IsProtected m o.state a

-- the same over a unit, whatever it ends by
abbrev pub UnitsAreProtected : Type 0
UnitsAreProtected = (m : State) (a : ℕ) → IsProtected m (unit m).ran.state a

-- what only the supervisor state gives: the keys in storage, the control registers, the system
-- mask, the key and the bits 12 to 15 of the PSW
pub record Rights : Type 0 where
  pub keys : List ℕ
  pub control : List ℕ
  pub system_mask : ℕ
  pub key : ℕ
  pub extended : Bool
  pub machine_check : Bool
  pub wait : Bool
  pub problem : Bool

-- the rights of a processor: all that only the supervisor state may change
abbrev pub rights_of : State → Rights
rights_of m = record {
  keys = m.keys;
  control = m.cpu.control;
  system_mask = m.cpu.psw.system_mask;
  key = m.cpu.psw.key;
  extended = m.cpu.psw.extended;
  machine_check = m.cpu.psw.machine_check;
  wait = m.cpu.psw.wait;
  problem = m.cpu.psw.problem;
}

-- in the problem state nothing of these changes
abbrev pub StaysInItsRights : State → State → Type 0
StaysInItsRights old new = old.cpu.psw.problem ≡ true → rights_of new ≡ rights_of old

-- no instruction in problem state changes the rights
abbrev pub ProblemStateHolds : Type 0
ProblemStateHolds = (m : State) (place : Place) (i : Instruction) (o : Outcome) → Does m place i o
    → StaysInItsRights m o.state

-- the same over a unit
abbrev pub UnitsStayInTheirRights : Type 0
UnitsStayInTheirRights = (m : State) → StaysInItsRights m (unit m).ran.state

-- at most two ranges, each of at most 256 bytes
abbrev pub AreFew : List Test → Type 0
AreFew ts = (length ts ≤ 2) × All (λ t. t.count ≤ 256) ts

-- the row of an instruction, whose second byte is a byte, tests no more
abbrev pub FewTests : Type 0
FewTests = (m : State) (place : Place) (i : Instruction) → i.second_byte < 2 ^ 8
    → AreFew (row_of m place i).tests

-- the pages of which this holds are all in one list of at most n
pub record AreAtMost (n : ℕ) (holds : ℕ → Type 0) : Type 0 where
  pub pages : List ℕ
  pub few : length pages ≤ n
  pub all : (page : ℕ) → holds page → Contains pages page

-- the stages of a unit ask for at most eight pages: two for the instruction, two for the target of
-- EX and four for the operands
abbrev pub UnitsAskForFewPages : Type 0
UnitsAskForFewPages = (m : State) → AreAtMost 8 (Asks m (unit m).stages)
