-- The devices of a machine stay, each that works has a program, and starts are numbered, whatever
-- happens.
use Rattle.std.specs.Prelude.{ℕ, ◌≡◌, ◌≤◌, ◌⊎◌, Bool, true, List, [], ◌∷◌, IsSome, Some, is_some}
use Rattle.std.specs.Prelude.{map}
use Rattle.s370_channel.specs.Reading.{Reading}
use Rattle.s370_channel.specs.Words.{caw_of}
use Rattle.s370_store.specs.Memory.{Memory}
use Rattle.s370_subchannels.specs.declared.subchannel.DeviceState.{DeviceState}
use Rattle.s370_subchannels.specs.declared.subchannel.DeviceState.TheVariants.{Idle, Working}
use Rattle.s370_subchannels.specs.declared.subchannel.DeviceState.TheVariants.{Pending}
use Rattle.s370_subchannels.specs.declared.subchannel.Subchannel.{Subchannel}
use Rattle.s370_subchannels.specs.Programs.{program_of}
use Rattle.s370_subchannels.specs.Starts.{works}
use Rattle.s370_subchannels.specs.Subchannels.{found, next_start}
use Rattle.machine_panel.specs.Machine.{unused}
use Rattle.machine_devices.specs.Equipped.{Equipped}
use Rattle.machine_devices.specs.Life.{Event, Units, Serve, Line, Tick, Deck, Message, Purge, Lives}
use Rattle.machine_devices.specs.UserDirectory.{UserDirectory}

-- where the device works, the channel address word of its program is good
abbrev pub HasProgram : DeviceState → Type 0
HasProgram Idle = Unit {0}
HasProgram (Working caw) = IsSome (caw_of caw)
HasProgram (Pending csw) = Unit {0}

-- so it is for each device
abbrev pub AllHavePrograms : List Subchannel → Type 0
AllHavePrograms [] = Unit {0}
AllHavePrograms (s ∷ ss) = HasProgram s.state × AllHavePrograms ss

-- a machine that was never switched on has no device that works
abbrev pub NoneWorksAtFirst : Type 0
NoneWorksAtFirst = (m : Memory) (list : List Subchannel)
    → AllHavePrograms (unused m list).core.subchannels

-- and so it stays, whatever happens to the machine
abbrev pub AllGoOnHavingPrograms : Type 0
AllGoOnHavingPrograms = (reads : Reading) (events : List Event) (first last : Equipped) →
    Lives reads events first last → AllHavePrograms first.machine.core.subchannels
    → AllHavePrograms last.machine.core.subchannels

-- a device that is served has a program exactly where it works
abbrev pub WorksWithProgram : Type 0
WorksWithProgram = (device : ℕ) (list : List Subchannel) (s : Subchannel) →
    AllHavePrograms list → found device list ≡ Some s
    → is_some (program_of device list) ≡ works s.state

-- the devices have the addresses that they had
abbrev pub DevicesStay : Type 0
DevicesStay = (reads : Reading) (events : List Event) (first last : Equipped)
    → Lives reads events first last →
    map (λ (s : Subchannel). s.address) last.machine.core.subchannels
    ≡ map (λ (s : Subchannel). s.address) first.machine.core.subchannels

-- a device that works has worked before on the same program, or its start has this number or a
-- higher one
abbrev pub WorksSince : ℕ → Subchannel → Subchannel → Type 0
WorksSince number old new = works new.state ≡ true →
    ((works old.state ≡ true) × (new.last_start ≡ old.last_start)) ⊎ (number ≤ new.last_start)

-- the devices are the same, and so it is with each
abbrev pub AllWorkSince : ℕ → List Subchannel → List Subchannel → Type 0
AllWorkSince number [] [] = Unit {0}
AllWorkSince number [] (new ∷ news) = ⊥
AllWorkSince number (old ∷ olds) [] = ⊥
AllWorkSince number (old ∷ olds) (new ∷ news) = (new.address ≡ old.address)
    × WorksSince number old new × AllWorkSince number olds news

-- whatever happens to a machine, a device that is started gets the next number or a higher one
abbrev pub StartsAreNumbered : Type 0
StartsAreNumbered = (reads : Reading) (events : List Event) (first last : Equipped)
    → Lives reads events first last →
    AllWorkSince (next_start first.machine.core.subchannels) first.machine.core.subchannels
    last.machine.core.subchannels

-- these events are decks and messages
abbrev pub AreDeliveries : List Event → Type 0
AreDeliveries [] = Unit {0}
AreDeliveries (Units count ∷ events) = ⊥
AreDeliveries (Serve device ∷ events) = ⊥
AreDeliveries (Line world typed ∷ events) = ⊥
AreDeliveries (Tick ∷ events) = ⊥
AreDeliveries (Deck deck ∷ events) = AreDeliveries events
AreDeliveries (Message text ∷ events) = AreDeliveries events
AreDeliveries (Purge id ∷ events) = ⊥

-- what is delivered to a machine changes no subchannel
abbrev pub DeliveriesChangeNone : Type 0
DeliveriesChangeNone = (reads : Reading) (events : List Event) (first last : Equipped)
    → AreDeliveries events → Lives reads events first last
    → last.machine.core.subchannels ≡ first.machine.core.subchannels
