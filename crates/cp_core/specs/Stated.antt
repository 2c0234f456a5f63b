-- What the directory states of the device that an event names.
use Rattle.std.specs.Prelude.{◌≡◌, ◌≤◌, ℕ, Bool, false, length, slice_get, Option, Some, None}
use Rattle.cp_directory.specs.Users.{DirectoryUser, has_device}
use Rattle.cp_core.specs.System.{SystemView}
use Rattle.machine_devices.specs.declared.event.Event.{Event}
use Rattle.machine_devices.specs.declared.event.Event.TheVariants.{Run, Line, Tick, Deck, Serve}
use Rattle.machine_devices.specs.declared.event.Event.TheVariants.{Transfer}

-- whether the directory gives the user a device with this address
abbrev pub states_device : ℕ → Option DirectoryUser → Bool
states_device address None = false
states_device address (Some user) = has_device address user

-- the event is for a device that the directory does not give the user, or for the reader of a
-- receiver whom the directory does not have
abbrev pub LacksDevice : SystemView → Event → Type 0
LacksDevice s (Serve user device) = states_device device (slice_get s.directory user) ≡ false
LacksDevice s (Run user asked) = ⊥
LacksDevice s (Line user typed) = ⊥
LacksDevice s (Tick user) = ⊥
LacksDevice s (Deck user cards) = ⊥
LacksDevice s (Transfer user id to) = length s.directory ≤ to
