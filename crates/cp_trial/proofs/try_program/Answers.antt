use Rattle.s370_channel.specs.Runs.{begun, limited}
use Rattle.cp_trial.specs.Trial.{trial_memory}
use Rattle.cp_trial.proofs.Pages.{pages_of}
use Rattle.cp_trial.proofs.try_program.Goals as goal

pub returns : goal.returns
returns g c =
    pages_of (limited g.T.Device.machine c.args.start) (λ m. begun c.args.start m c.args.trial.now) c.args.storage.now
    (trial_memory c.in_ok-copy.copy) c.try_program.new.copy c.into_pages.result c.in_ok-copy.ensures.memory
    c.into_pages.ensures.bytes c.into_pages.ensures.touched c.in_ok-try_program.ensures.tried
