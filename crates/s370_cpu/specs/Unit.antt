-- A unit that is one instruction, whatever the table has: GA22-7000, "Program Interruption" and
-- "Instruction Fetching".
use Rattle.std.specs.Prelude.{◌≡◌, ℕ, ◌+◌, ◌*◌, ◌%◌, ◌^◌, Bool, List, [], ◌∷◌, ◌++◌, length, Result}
use Rattle.std.specs.Prelude.{Ok, Err}
use Rattle.s370_psw.specs.declared.ProgramCode.{ProgramCode}
use Rattle.s370_store.specs.Access.{Test, IsAbsent}
use Rattle.s370_rows.specs.declared.cpu.Cpu.{Cpu}
use Rattle.s370_rows.specs.declared.ending.Completion.{Completion}
use Rattle.s370_rows.specs.declared.ending.Completion.TheVariants.{Done, Branch, Again, Interrupted}
use Rattle.s370_rows.specs.declared.ending.Completion.TheVariants.{SupervisorCall, InputOutput}
use Rattle.s370_rows.specs.declared.ending.Refusal.{Refusal}
use Rattle.s370_rows.specs.declared.ending.Refusal.TheVariants.{Program as Suppressed}
use Rattle.s370_rows.specs.declared.ending.Refusal.TheVariants.{Absent as Missing}
use Rattle.s370_rows.specs.declared.instruction.Instruction.{Instruction}
use Rattle.s370_rows.specs.declared.place.Place.{Place}
use Rattle.s370_rows.specs.State.{State}
use Rattle.s370_rows.specs.Rows.{Row, Outcome, judged, outcome_of}
use Rattle.s370_cpu.specs.declared.conclude.Stop.{Stop}
use Rattle.s370_cpu.specs.declared.conclude.Stop.TheVariants.{Done as DoneStop, Program, Svc}
use Rattle.s370_cpu.specs.declared.conclude.Stop.TheVariants.{InputOutput as Asked, Absent}
use Rattle.s370_cpu.specs.Fetch.{Asks, fetched, halfwords_of}
use Rattle.s370_cpu.specs.Execute.{executed}

-- how an instruction stops, and the registers that it leaves
pub record Stopped : Type 0 where
  pub stop : Stop
  pub cpu : Cpu

-- how a unit stops, and the state that it leaves
pub record Ran : Type 0 where
  pub stop : Stop
  pub state : State

-- a unit at a state: the ranges that it tests, in stages of which each is tested only where those
-- before it pass, and what it does
pub record Unit : Type 0 where
  pub stages : List (List Test)
  pub ran : Ran

-- the instruction address is this one, and nothing else changes
abbrev pub at_address : Cpu → ℕ → Cpu
at_address cpu a = record cpu { psw = record cpu.psw { address = a } }

-- the program is interrupted; the next address is the one that is stored
abbrev pub interrupted : ProgramCode → Place → Cpu → Stopped
interrupted code place cpu =
    record { stop = Program code place.ilc; cpu = at_address cpu place.next }

-- an instruction that ends goes on to the next address, or to the one that it branches to; one that
-- is done in part leaves the address
abbrev pub ended : Completion → Place → Cpu → Stopped
ended Done place cpu = record { stop = DoneStop; cpu = at_address cpu place.next }
ended (Branch a) place cpu = record { stop = DoneStop; cpu = at_address cpu (a % 2 ^ 24) }
ended Again place cpu = record { stop = DoneStop; cpu = cpu }
ended (Interrupted code) place cpu = interrupted code place cpu
ended (SupervisorCall n) place cpu =
    record { stop = Svc n place.ilc; cpu = at_address cpu place.next }
ended (InputOutput operation device) place cpu =
    record { stop = Asked operation device; cpu = at_address cpu place.next }

-- the registers are these, and nothing else changes
abbrev pub ran : State → Stopped → Ran
ran m s = record { stop = s.stop; state = record m { cpu = s.cpu } }

-- the outcome of a row, or the code that suppresses it, at its place
abbrev pub concluded : State → Place → Result Outcome ProgramCode → Ran
concluded m place (Err code) = ran m (interrupted code place m.cpu)
concluded m place (Ok o) = ran o.state (ended o.ending place o.state.cpu)

-- where an instruction of so many halfwords is to its end: the next address is past its bytes
abbrev pub place_at : State → ℕ → Place
place_at m n = record { next = (m.cpu.psw.address + 2 * n) % 2 ^ 24; ilc = n }

-- the rest of a unit over a table, of which the instruction that is carried out is known
abbrev pub carried : (State → Place → Instruction → Row) → State → Place → Instruction → Unit
carried rows m place i =
    let r = rows m place i in
    record { stages = r.tests ∷ []; ran = concluded m place (outcome_of m (judged m r)) }

-- the same, after stages that passed; or the code for which no instruction can be carried out
abbrev pub unit_executed : (State → Place → Instruction → Row) → State → List (List Test) → Place
    → Result Instruction ProgramCode → Unit
unit_executed rows m ss place (Err code) =
    record { stages = ss; ran = ran m (interrupted code place m.cpu) }
unit_executed rows m ss place (Ok i) = let u =
    carried rows m place i in record { stages = ss ++ u.stages; ran = u.ran }

-- the unit over a table, of which the fetch is known; a fetch that fails leaves the address, and
-- its length code is 0
abbrev pub unit_fetched : (State → Place → Instruction → Row) → State → List (List Test)
    → Result Instruction ProgramCode → Unit
unit_fetched rows m ss (Err code) =
    record { stages = ss; ran = record { stop = Program code 0; state = m } }
unit_fetched rows m ss (Ok i) = let x =
    executed m i in unit_executed rows m (ss ++ x.stages) (place_at m (halfwords_of i.opcode))
    x.result

-- the unit over a table: the fetch at the instruction address, the fetch of the target of EX, and
-- the row of what is carried out
abbrev pub unit_over : (State → Place → Instruction → Row) → State → Unit
unit_over rows m = let f = fetched m m.cpu.psw.address in unit_fetched rows m f.stages f.result

-- the instruction that a unit carries out, with the length code of what was fetched first
pub record Carries (m : State) (ilc : ℕ) (i : Instruction) : Type 0 where
  pub first : Instruction
  pub fetch : (fetched m m.cpu.psw.address).result ≡ Ok first
  pub length_code : ilc ≡ halfwords_of first.opcode
  pub execute : (executed m first).result ≡ Ok i

-- what the code may answer: with nothing changed, a page that one of the unit's stages asks for and
-- that is not present; or the stop and the state of the unit
abbrev pub MeetsUnit : Unit → (ℕ → Bool) → State → Stop → State → Type 0
MeetsUnit u present old (Absent page) new =
    (new ≡ old) × IsAbsent (length old.bytes) present page.0 × Asks old u.stages page.0
MeetsUnit u present old stop new = u.ran ≡ record { stop = stop; state = new }

-- how an instruction stops that was fetched, by what its row answered
abbrev pub stopped : Result Completion Refusal → Place → Cpu → Stopped
stopped (Ok ending) place cpu = ended ending place cpu
stopped (Err (Suppressed code)) place cpu = interrupted code place cpu
stopped (Err (Missing page)) place cpu = record { stop = Absent page; cpu = cpu }
