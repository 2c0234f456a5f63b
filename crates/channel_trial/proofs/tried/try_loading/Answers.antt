use Rattle.s370_channel.specs.Loading.{loading, loading_limits}
use Rattle.s370_channel.specs.Progress.{setting}
use Rattle.channel_trial.proofs.Trying.{tried_for}
use Rattle.channel_trial.proofs.tried.try_loading.Goals as goal

pub returns-in-Ok : goal.returns-in-Ok
returns-in-Ok g c =
    let paged_in = c.load_supplied.ensures.paged_in in
    let old = c.args.copy.now in
    let new = c.load_supplied.new.storage in
    let came = paged_in.1 in
    record {
      tried = tried_for (setting g.T.Device.machine loading_limits)
          (loading g.T.Device.machine (g.S.Storage.memory old) c.args.trial.now) c.load_supplied.new.device
          c.in-Ok.field-0 (g.S.Storage.memory old) (g.S.Storage.memory new)
          (g.S.Storage.present old) (g.S.Storage.present new) (g.S.TrialSupply.flags new) paged_in.0
          (record {
            clear = c.requires.untouched;
            flagged = g.met.S.TrialSupply.present_flags new;
            came = g.met.S.TrialSupply.came_for old new paged_in.0 came;
            beside = g.met.S.TrialSupply.came_beside old new paged_in.0 came;
            size = g.met.S.UnitSupply.came_size old new paged_in.0 came;
            keys = c.load_supplied.ensures.keys;
          }) c.in-Ok.ensures.reaches paged_in.2;
    }
