use Rattle.unit_record.specs.Punch.{punch_machine}
use Rattle.unit_record.specs.Trials.{punch_seen, punch_trial}
use Rattle.unit_record.proofs.Seen.{views_punch}
use Rattle.channel_trial.proofs.Trying.{view_tried}
use Rattle.channel_trial.proofs.tried.PunchDryRun.dry_run.Goals as goal

pub returns : goal.returns
returns g c =
    let old = c.args.copy.now in
    let new = c.try_program.new.copy in
    record {
      tried = view_tried punch_machine punch_trial punch_seen c.args.start (g.S.Storage.memory old) c.args.self.now
          c.trial.result c.try_program.result (g.S.Storage.memory new).bytes (g.S.TrialSupply.flags new) views_punch
          c.trial.ensures
          c.try_program.ensures.tried;
    }
