use Rattle.s370_channel.specs.Loading.{loading, loading_limits}
use Rattle.s370_channel.specs.Progress.{setting}
use Rattle.cp_trial.specs.Trial.{trial_memory}
use Rattle.cp_trial.proofs.Pages.{pages_of}
use Rattle.cp_trial.proofs.try_loading.Goals as goal

pub returns : goal.returns
returns g c =
    pages_of (setting g.T.Device.machine loading_limits) (λ m. loading g.T.Device.machine m c.args.trial.now)
    c.args.storage.now
    (trial_memory c.in_ok-copy.copy) c.try_loading.new.copy c.into_pages.result c.in_ok-copy.ensures.memory
    c.into_pages.ensures.bytes c.into_pages.ensures.touched c.in_ok-try_loading.ensures.tried
