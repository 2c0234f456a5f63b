use Rattle.s370_channel.specs.Loading.{loading, loading_limits}
use Rattle.s370_channel.specs.Progress.{setting}
use Rattle.cp_trial.specs.Trial.{trial_memory}
use Rattle.cp_trial.proofs.Pages.{pages_of}
use Rattle.cp_trial.proofs.try_load.Goals as goal

pub returns : goal.returns
returns g c =
    pages_of (setting g.D.Device.machine loading_limits) (λ m. loading g.D.Device.machine m c.args.device.now)
    c.args.storage.now
    (trial_memory c.in_ok-copy.copy) c.try_load.new.copy c.into_pages.result c.in_ok-copy.ensures.memory
    c.into_pages.ensures.bytes c.into_pages.ensures.touched c.in_ok-try_load.ensures.tried
