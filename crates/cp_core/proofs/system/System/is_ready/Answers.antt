use Rattle.std.proofs.Common.{◌∙◌, ap, sym}
use Rattle.s370_store.specs.Memory.{memory_of}
use Rattle.machine_panel.specs.Machine.{machine_of}
use Rattle.machine_panel.specs.Ready.{is_ready}
use Rattle.machine_devices.specs.Equipped.{Equipped}
use Rattle.cp_core.specs.System.{machine_at}
use Rattle.cp_core.specs.UserMachines.{SeatParts}
use Rattle.cp_core.proofs.system.System.is_ready.Goals as goal

pub returns-in-Some : goal.returns-in-Some
returns-in-Some c =
    let memory = memory_of (machine_at c.args.self.now c.args.user).core.processor.bytes c.in-Some.user.now.keys in
    c.is_ready.ensures memory
    ∙ ap (λ (s : SeatParts). is_ready (machine_of s.parts memory)) c.user-in-Some.view_is
    ∙ ap (λ (e : Equipped). is_ready e.machine) (sym c.in-Some.ensures.user)
