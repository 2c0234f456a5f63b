use Rattle.std.proofs.Common.{List, map, ap}
use Rattle.cp_console.specs.declared.responses.Response.TheVariants.{SystemReset}
use Rattle.machine_panel.specs.Machine.{Machine}
use Rattle.machine_channels.specs.Disks.{DiskAt, reset_disk}
use Rattle.machine_devices.specs.declared.line.LineOutcome.TheVariants.{Said}
use Rattle.machine_devices.specs.Lines.{outcome}
use Rattle.machine_devices.specs.Equipped.{Equipped}
use Rattle.machine_devices.specs.Devices.{DevicesValue}
use Rattle.machine_devices.specs.Lent.{devices_with}
use Rattle.machine_devices.specs.Resets.{devices_reset}
use Rattle.machine_devices.proofs.devices.Devices.reset_machine.Goals as goal

abbrev with : DevicesValue → List DiskAt → Machine → Equipped
with d disks m = record { machine = m; devices = d; disks = disks }

pub returns-in-Err-clause-err : goal.returns-in-Err-clause-err
returns-in-Err-clause-err g c =
    λ files memory. ap (λ (m : Machine). with (devices_with c.args.self.now files) (g.D.Disks.disks c.args.disks.now) m)
    (c.in-Err.ensures.err memory)

pub returns-clause-ok : goal.returns-clause-ok
returns-clause-ok g c = λ files memory.
    rw (c.reset.ensures, c.reset_disks.ensures.reset)
    (ap (λ (m : Machine). outcome
    (with (devices_reset (devices_with c.args.self.now files)) (map reset_disk (g.D.Disks.disks c.args.disks.now)) m)
    (Said SystemReset)) (c.in-Ok.ensures.ok memory))
