-- The length code of a program interruption is that of the instruction's place.
use Rattle.std.proofs.Common.{◌≡◌, ℕ, Result, Ok, Err, ap}
use Rattle.s370_psw.specs.declared.ProgramCode.{ProgramCode}
use Rattle.s370_rows.specs.declared.ending.Completion.{Completion}
use Rattle.s370_rows.specs.declared.ending.Completion.TheVariants.{Done, Branch, Again, Interrupted, SupervisorCall}
use Rattle.s370_rows.specs.declared.ending.Completion.TheVariants.{InputOutput}
use Rattle.s370_rows.specs.declared.place.Place.{Place}
use Rattle.s370_rows.specs.State.{State}
use Rattle.s370_rows.specs.Rows.{Outcome}
use Rattle.s370_cpu.specs.declared.conclude.Stop.TheVariants.{Program}
use Rattle.s370_cpu.specs.Unit.{Ran, concluded, ended}

ended_length : (ending : Completion) (place : Place) (m : State) (code : ProgramCode) (ilc : ℕ)
    → (ended ending place m.cpu).stop ≡ Program code ilc → ilc ≡ place.ilc
ended_length Done place m code ilc e = cc
ended_length (Branch a) place m code ilc e = cc
ended_length Again place m code ilc e = cc
ended_length (Interrupted other) place m code ilc e = cc
ended_length (SupervisorCall n) place m code ilc e = cc
ended_length (InputOutput operation device) place m code ilc e = cc

refused_length : (other code : ProgramCode) (place : Place) (ilc : ℕ) → Program other place.ilc ≡ Program code ilc
    → ilc ≡ place.ilc
refused_length other code place ilc e = cc

-- The length code of an instruction that raised an exception is its own.
pub length_is : (m m' : State) (place : Place) (r : Result Outcome ProgramCode) (code : ProgramCode) (ilc : ℕ)
    → concluded m place r ≡ record { stop = Program code ilc; state = m' } → ilc ≡ place.ilc
length_is m m' place (Err other) code ilc e = refused_length other code place ilc (ap (λ (r : Ran). r.stop) e)
length_is m m' place (Ok o) code ilc e = ended_length o.ending place o.state code ilc (ap (λ (r : Ran). r.stop) e)
