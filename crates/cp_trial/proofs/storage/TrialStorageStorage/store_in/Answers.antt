use Rattle.cp_trial.specs.Trial.{trial_bytes, is_touched}
use Rattle.cp_trial.proofs.Puts.{put_in_block, kept_where}
use Rattle.cp_trial.proofs.storage.TrialStorageStorage.store_in.Goals as goal

pub returns-clause-rest : goal.returns-clause-rest
returns-clause-rest c =
    kept_where c.args.self.now c.put.new.self _ _ c.put.ensures.size c.put.ensures.flags c.put.ensures.stored
    ((let p = c.requires.placed in put_in_block (is_touched c.args.self.now) (trial_bytes c.args.self.now)
    c.args.from.now c.args._block.first c.args.start p.whole p.inside p.touched c.requires.begins c.requires.ends))
