use Rattle.channel_trial.proofs.Trying.{loaded_back, tried_back}
use Rattle.channel_trial.proofs.tried.a_view_is_tried_for_its_device.Goals as goal

pub returns-clause-program : goal.returns-clause-program
returns-clause-program g c =
    λ machine small view start m d bytes touched same tried.
    tried_back machine small view start m d bytes touched same tried

pub returns-clause-loading : goal.returns-clause-loading
returns-clause-loading g c =
    λ machine small view m d bytes touched same tried. loaded_back machine small view m d bytes touched same tried
