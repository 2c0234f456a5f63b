use Rattle.cp_trial.specs.Trial.{trial_bytes, is_touched}
use Rattle.cp_trial.proofs.Puts.{put_granted, kept_where}
use Rattle.cp_trial.proofs.storage.TrialStorageStorage.store.Goals as goal

pub returns-clause-rest : goal.returns-clause-rest
returns-clause-rest c =
    kept_where c.args.self.now c.put.new.self _ _ c.put.ensures.size c.put.ensures.flags c.put.ensures.stored
    (put_granted (is_touched c.args.self.now) (trial_bytes c.args.self.now) c.args.from.now c.args.start
    c.requires.granted)
