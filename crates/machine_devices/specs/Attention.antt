-- Attention and the lines that wait (docs/MACHINE.md, "Attention").
use Rattle.std.specs.Prelude.{ℕ, ◌≡◌, ◌&&◌, Bool, true, List, [], bit_or, Option, IfSome}
use Rattle.s370_store.specs.Memory.{Memory}
use Rattle.s370_subchannels.specs.declared.subchannel.DeviceState.{DeviceState}
use Rattle.s370_subchannels.specs.declared.subchannel.DeviceState.TheVariants.{Idle, Working}
use Rattle.s370_subchannels.specs.declared.subchannel.DeviceState.TheVariants.{Pending}
use Rattle.s370_subchannels.specs.declared.subchannel.Subchannel.{Subchannel}
use Rattle.s370_subchannels.specs.Subchannels.{attention, found}
use Rattle.unit_record.specs.Console.{ConsoleState, wants_attention}
use Rattle.s370_channel.specs.Reading.{Reading}
use Rattle.machine_panel.specs.Machine.{unused}
use Rattle.machine_channels.specs.Disks.{DiskAt}
use Rattle.machine_devices.specs.Devices.{DevicesValue, is_there}
use Rattle.machine_devices.specs.Equipped.{Equipped}
use Rattle.machine_devices.specs.Life.{Event, Lives}

-- a status that is pending says attention
abbrev pub TellsAttention : DeviceState → Type 0
TellsAttention Idle = Unit {0}
TellsAttention (Working caw) = Unit {0}
TellsAttention (Pending csw) = (status : ℕ) × (csw ≡ bit_or status attention)

-- the mark of attention says whether a line waits for the device, and where one does a status that
-- is pending says it
abbrev pub IsMarked : Bool → Subchannel → Type 0
IsMarked waits s = (s.attention ≡ waits) × (waits ≡ true → TellsAttention s.state)

-- a line waits for a device that is the console
abbrev pub waits_at : Option ℕ → ConsoleState → ℕ → Bool
waits_at place console device = is_there place device && wants_attention console

-- attention agrees with the lines that wait, at each device of the machine
abbrev pub AttentionAgrees : Equipped → Type 0
AttentionAgrees e =
    (device : ℕ) → IfSome (found device e.machine.core.subchannels)
    (IsMarked (waits_at e.devices.places.console e.devices.console device))

-- it agrees in a machine that was never switched on, where no line waits
abbrev pub AttentionAgreesAtFirst : Type 0
AttentionAgreesAtFirst =
    (m : Memory) (list : List Subchannel) (d : DevicesValue) (disks : List DiskAt) →
    d.console.waiting ≡ [] → AttentionAgrees
    (record { machine = unused m list; devices = d; disks = disks })

-- and it goes on agreeing, whatever happens to the machine
abbrev pub AttentionGoesOnAgreeing : Type 0
AttentionGoesOnAgreeing = (reads : Reading) (events : List Event) (first last : Equipped) →
    AttentionAgrees first → Lives reads events first last → AttentionAgrees last
