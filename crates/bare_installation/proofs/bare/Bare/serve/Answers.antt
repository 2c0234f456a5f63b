use Rattle.std.proofs.Common.{refl, rules}
use Rattle.s370_store.specs.Plain.{plain_memory}
use Rattle.s370_channel.specs.Reading.{as_reached}
use Rattle.machine_channels.specs.DedicatedChannels.{disks_of}
use Rattle.machine_devices.specs.Equipped.{equipped}
use Rattle.machine_devices.specs.Lent.{devices_on}
use Rattle.bare_installation.proofs.Present.{never_away}
use Rattle.bare_installation.proofs.bare.Bare.serve.Goals as goal
use Rattle.bare_installation.proofs.bare.Bare.serve.Goals.{in-Ok, in-Err-Memory}

pub returns-clause-served : goal.returns-clause-served
returns-clause-served c =
    elim c.match-serve.branch
    [ in-Ok w ↦ rw w.result-is (search rules) | in-Err-Memory w ↦ rw w.result-is (search rules) ]

pub unreachable-requires : goal.unreachable-requires
unreachable-requires c =
    let before = equipped c.self.inside.machine (devices_on c.self.inside.devices c.self.inside.queues)
    (disks_of c.self.inside.channels) (plain_memory c.self.inside.storage) in
    never_away as_reached c.args.device before c.in-Err-Absent.field-0 c.in-Err-Absent.field-0-0
    c.in-Err-Absent.field-0-is (c.in-Err-Absent.ensures.ends.stopped refl)
