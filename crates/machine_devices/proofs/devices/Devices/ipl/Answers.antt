use Rattle.std.specs.Prelude.{◌≡◌, Option, Some}
use Rattle.std.proofs.Common.{subst}
use Rattle.machine_devices.specs.declared.places.AttachedDevice.{AttachedDevice}
use Rattle.machine_devices.specs.declared.places.AttachedDevice.TheVariants as kinds
use Rattle.machine_devices.specs.Borrowed.{LoadEnds, borrowed}
use Rattle.machine_devices.specs.Devices.{kind_in}
use Rattle.machine_devices.proofs.devices.Devices.ipl.Goals as goal

pub returns-in-Some-Reader : goal.returns-in-Some-Reader
returns-in-Some-Reader g c =
    let load = c.load_reader in
    let kind : Option AttachedDevice =
    kind_in c.args.self.now.places (g.C.Disks.disks c.args.channels.now) c.args.device in
    let found : Some kinds.Reader ≡ kind = (let a = c.in-Some-Reader.is in let b = c.in-Some-Reader.field-0-is in
    let e = c.kind_at.ensures.kind in cc) in
    subst (λ (k : Option AttachedDevice). LoadEnds g.C.Channels g.C.Disks g.S.Storage k c.args.device
    (borrowed c.args.self.now c.args.queues.now c.args.machine.now c.args.storage.now c.args.channels.now)
    (borrowed load.new.self load.new.queues load.new.machine load.new.storage load.new.channels) load.result) found
    load.ensures

pub returns-in-Some-Disk : goal.returns-in-Some-Disk
returns-in-Some-Disk g c =
    let load = c.load_disk in
    let kind : Option AttachedDevice =
    kind_in c.args.self.now.places (g.C.Disks.disks c.args.channels.now) c.args.device in
    let found : Some (kinds.Disk c.in-Some-Disk.index) ≡ kind = (let a = c.in-Some-Disk.is in
    let b = c.in-Some-Disk.field-0-is in let e = c.kind_at.ensures.kind in cc) in
    subst (λ (k : Option AttachedDevice). LoadEnds g.C.Channels g.C.Disks g.S.Storage k c.args.device
    (borrowed c.args.self.now c.args.queues.now c.args.machine.now c.args.storage.now c.args.channels.now)
    (borrowed load.new.self c.args.queues.now load.new.machine load.new.storage load.new.channels) load.result) found
    load.ensures
