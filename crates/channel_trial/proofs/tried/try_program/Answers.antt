use Rattle.channel_trial.proofs.Trying.{tried_told}
use Rattle.channel_trial.proofs.tried.try_program.Goals as goal

pub returns-in-Ok : goal.returns-in-Ok
returns-in-Ok g c =
    let ran = c.in-Ok.ensures in
    let paged_in = c.run_supplied.ensures.paged_in in
    let old = c.args.copy.now in
    let new = c.run_supplied.new.storage in
    let came = paged_in.1 in
    record {
      tried = tried_told g.T.Device.machine c.args.start c.args.trial.now c.run_supplied.new.device
          c.in-Ok.field-0 (g.S.Storage.memory old) (g.S.Storage.memory new) c.get.result c.limits_of.result
          (g.S.Storage.present old) (g.S.Storage.present new) (g.S.TrialSupply.flags new) paged_in.0 c.get.ensures.value
          c.limits_of.ensures
          (record {
            clear = c.requires.untouched;
            flagged = g.met.S.TrialSupply.present_flags new;
            came = g.met.S.TrialSupply.came_for old new paged_in.0 came;
            beside = g.met.S.TrialSupply.came_beside old new paged_in.0 came;
            size = g.met.S.UnitSupply.came_size old new paged_in.0 came;
            keys = c.run_supplied.ensures.keys;
          }) ran.reaches paged_in.2;
    }
