use Rattle.unit_record.specs.Console.{console_machine}
use Rattle.unit_record.specs.Trials.{console_seen, console_trial}
use Rattle.unit_record.proofs.Seen.{views_console}
use Rattle.channel_trial.proofs.Trying.{view_tried}
use Rattle.channel_trial.proofs.tried.ConsoleDryRun.dry_run.Goals as goal

pub returns : goal.returns
returns g c =
    let old = c.args.copy.now in
    let new = c.try_program.new.copy in
    record {
      tried = view_tried console_machine console_trial console_seen c.args.start (g.S.Storage.memory old)
          c.args.self.now c.trial.result c.try_program.result (g.S.Storage.memory new).bytes (g.S.TrialSupply.flags
          new) views_console
          c.trial.ensures c.try_program.ensures.tried;
    }
