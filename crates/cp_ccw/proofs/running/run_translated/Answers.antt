use Rattle.s370_channel.specs.Progress.{setting}
use Rattle.cp_ccw.proofs.Runs.{frozen_run, steady_run, never_absent, kept_translated, whole_in, short_in}
use Rattle.cp_ccw.proofs.running.run_translated.Goals as goal

pub returns-in-Err-clause-never_absent : goal.returns-in-Err-clause-never_absent
returns-in-Err-clause-never_absent g c = λ m0 t.
    never_absent (setting g.D.Device.machine c.args.limits.now) c.args.table.now.places.items
    c.args.table.now.nodes.items c.args.table.now.start m0 c.args.real.now c.args.device.now t
    (short_in c.args.real.now) (whole_in c.args.real.now) g.D.Device.needs_memory c.in-Err.error
    c.in-Err.ensures.stuck

pub returns-clause-runs : goal.returns-clause-runs
returns-clause-runs g c = λ m0 t there. record {
  frozen = frozen_run (setting g.D.Device.machine c.args.limits.now) c.args.table.now.places.items
      c.args.table.now.nodes.items c.args.table.now.start m0 c.args.real.now c.args.device.now t
      (short_in c.args.real.now) (whole_in c.args.real.now)
      c.run.new.storage c.in-Ok.ensures.rest c.run.new.device c.in-Ok.ending c.guest_address.result
      c.guest_address.ensures there c.in-Ok.ensures.reaches;
  steady = λ steady. steady_run (setting g.D.Device.machine c.args.limits.now) c.args.table.now.places.items
      c.args.table.now.nodes.items c.args.table.now.start m0 c.args.real.now c.args.device.now t
      (short_in c.args.real.now) (whole_in c.args.real.now)
      c.run.new.storage c.in-Ok.ensures.rest c.run.new.device c.in-Ok.ending c.guest_address.result
      c.guest_address.ensures there c.in-Ok.ensures.reaches steady;
}

pub returns-clause-again : goal.returns-clause-again
returns-clause-again g c =
    λ m0 t. kept_translated c.args.real.now c.run.new.storage c.args.table.now.places.items c.args.table.now.nodes.items
    m0 c.in-Ok.ensures.rest t

pub returns-in-Err-clause-again : goal.returns-in-Err-clause-again
returns-in-Err-clause-again g c =
    λ m0 t. kept_translated c.args.real.now c.run.new.storage c.args.table.now.places.items c.args.table.now.nodes.items
    m0 c.in-Err.ensures.rest t
