use Rattle.std.proofs.Common.{sym, subst}
use Rattle.cp_ccw.specs.CachedProgram.{IsAtBase, KeptProgram}
use Rattle.cp_ccw.proofs.Keeping.{runs_itself, stops_for_memory}
use Rattle.cp_ccw.proofs.reuse.run_kept.Goals as goal

pub returns-clause-reaches : goal.returns-clause-reaches
returns-clause-reaches g c =
    let base = subst (λ (k : KeptProgram). IsAtBase k c.args.storage.now c.args.caw) (sym c.kept.view_is) c.requires in
    runs_itself _ c.kept.invariant c.args.storage.now c.args.caw base c.run_lent.result g.D.Device.machine
    c.args.limits.now c.args.device.now c.run_lent.new.storage c.run_lent.new.device c.run_lent.ensures.runs

pub returns-clause-memory : goal.returns-clause-memory
returns-clause-memory g c =
    let base = subst (λ (k : KeptProgram). IsAtBase k c.args.storage.now c.args.caw) (sym c.kept.view_is) c.requires in
    stops_for_memory _ c.kept.invariant c.args.storage.now c.args.caw base c.run_lent.result
    c.run_lent.ensures.never_absent
