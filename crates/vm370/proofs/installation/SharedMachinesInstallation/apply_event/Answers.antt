use Rattle.std.proofs.Common.{◌≡◌, ◌∙◌, Err, ap, subst, sym}
use Rattle.cp_core.specs.System.{SystemView}
use Rattle.cp_core.specs.declared.events.CpError.TheVariants.{NoSuchDevice}
use Rattle.session_script.specs.Script.{IsOfDevice}
use Rattle.sessions.specs.Installed.{as_said}
use Rattle.vm370.specs.Goes.{known_users}
use Rattle.vm370.proofs.Stated.{stated}
use Rattle.vm370.proofs.installation.SharedMachinesInstallation.apply_event.Goals as goal

pub unreachable-requires-in-Err-NoSuchDevice : goal.unreachable-requires-in-Err-NoSuchDevice
unreachable-requires-in-Err-NoSuchDevice c =
    let refused : c.apply.result ≡ Err NoSuchDevice =
    c.in-Err-NoSuchDevice.is ∙ ap Err c.in-Err-NoSuchDevice.field-0-is in
    let device = subst (λ (s : SystemView). IsOfDevice (known_users s.directory) (as_said c.args.event.now))
    (sym c.self.view_is) c.requires.device in
    stated c.self.inside.system c.args.event.now device (c.apply.ensures.refused.no_such_device.0 refused).2
