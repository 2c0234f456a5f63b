use Rattle.std.proofs.Common.{ℕ, ap, sym, ◌∙◌}
use Rattle.std.specs.Prelude.{slice_get}
use Rattle.cp_core.specs.Stated.{states_device}
use Rattle.cp_core.specs.System.{SystemView}
use Rattle.vm370.proofs.Stated.{had}
use Rattle.vm370.proofs.installation.SharedMachinesInstallation.has_device.Goals as goal

pub returns : goal.returns
returns c =
    c.states_device.ensures
    ∙ (ap (λ (a : ℕ). states_device a (slice_get c.self.inside.system.directory c.args.user)) c.new.ensures
    ∙ (ap (λ (s : SystemView). states_device c.args.address (slice_get s.directory c.args.user)) c.self.view_is
    ∙ sym (had c.args.self.now.directory c.args.user c.args.address)))
