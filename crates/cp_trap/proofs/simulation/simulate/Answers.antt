use Rattle.std.proofs.Common.{◌≡◌, ℕ, subst}
use Rattle.s370_rows.specs.State.{state_of}
use Rattle.s370_rows.specs.Rows.{judged, outcome_of}
use Rattle.s370_cpu.specs.declared.conclude.Stop.TheVariants.{Program}
use Rattle.s370_cpu.specs.Unit.{place_at}
use Rattle.s370_cpu.specs.Table.{row_of, supervised}
use Rattle.cp_trap.proofs.LengthCodes.{length_is}
use Rattle.cp_trap.proofs.simulation.simulate.Goals as goal

pub returns-in-Program-clause-simulated : goal.returns-in-Program-clause-simulated
returns-in-Program-clause-simulated g c =
    let m = state_of c.args.cpu.now (g.S.Storage.memory c.args.storage.now) in
    let m' = state_of c.supervise.new.cpu (g.S.Storage.memory c.supervise.new.storage) in
    let place = place_at m c.args.ilc in
    let e : c.in-Program.field-1 ≡ c.args.ilc =
    length_is m m' place (outcome_of m (judged m (row_of m place c.args.instruction))) c.in-Program.code
    c.in-Program.field-1 c.in-Program.ensures.unit in
    subst (λ (n : ℕ). (supervised m c.args.instruction c.args.ilc).ran
    ≡ record { stop = Program c.in-Program.code n; state = m' }) e c.in-Program.ensures.unit
