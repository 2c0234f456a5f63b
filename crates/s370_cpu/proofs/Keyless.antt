-- A privileged instruction that is done: the unit that it makes, and the keys in storage that stay.
use Rattle.std.proofs.Common.{◌≡◌, ℕ, Bool, Some, Ok, subst}
use Rattle.s370_rows.specs.declared.cpu.Cpu.{Cpu}
use Rattle.s370_rows.specs.declared.ending.Completion.{Completion}
use Rattle.s370_rows.specs.declared.instruction.Instruction.{Instruction}
use Rattle.s370_rows.specs.declared.place.Place.{Place}
use Rattle.s370_rows.specs.State.{State}
use Rattle.s370_rows.specs.Rows.{MeetsRow}
use Rattle.s370_cpu.specs.declared.conclude.Stop.TheVariants.{Done as DoneStop}
use Rattle.s370_cpu.specs.Table.{row_of}
use Rattle.s370_cpu.specs.Unit.{Carries, Stopped, place_at, stopped}
use Rattle.s370_cpu.specs.Held.{SupervisesOrStays}
use Rattle.s370_cpu.proofs.Frequent.{quick_unit}

-- A row that is done, after which the processor goes on, is a unit that keeps the keys in storage.
pub supervised_unit : (m : State) (place : Place) (i : Instruction) (ending : Completion) (cpu' : Cpu)
    (present : ℕ → Bool) (m' : State) (next : ℕ) → Carries m place.ilc i → place ≡ place_at m place.ilc
    → MeetsRow (row_of m place i) present m (Ok ending) m' → m'.keys ≡ m.keys
    → stopped (Ok ending) place m'.cpu ≡ record { stop = DoneStop; cpu = cpu' } → next ≡ cpu'.psw.address
    → SupervisesOrStays present m (Some next) (record m' { cpu = cpu' })
supervised_unit m place i ending cpu' present m' next carries here row keys e address =
    let row_here : MeetsRow (row_of m (place_at m place.ilc) i) present m (Ok ending) m' = subst
    (λ (p : Place). MeetsRow (row_of m p i) present m (Ok ending) m') here row in
    let stop_here : stopped (Ok ending) (place_at m place.ilc) m'.cpu ≡ record { stop = DoneStop; cpu = cpu' } = subst
    (λ (p : Place). stopped (Ok ending) p m'.cpu ≡ record { stop = DoneStop; cpu = cpu' }) here e in
    record {
      done = quick_unit m place.ilc i ending cpu' present m' carries row_here stop_here;
      next = address;
      still = tt;
      keys = keys;
    }
