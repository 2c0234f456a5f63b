-- The life of a machine with devices: one event after another.
use Rattle.std.specs.Prelude.{ℕ, ◌≡◌, Bool, List, [], ◌∷◌}
use Rattle.unit_record.specs.Reader.{DeckValue}
use Rattle.s370_channel.specs.Reading.{Reading}
use Rattle.machine_panel.specs.Machine.{printed}
use Rattle.machine_panel.specs.Run.{run}
use Rattle.machine_panel.specs.Tick.{ticked}
use Rattle.machine_devices.specs.declared.line.LineOutcome.{LineOutcome}
use Rattle.machine_devices.specs.Equipped.{Equipped}
use Rattle.machine_devices.specs.Lines.{IsLine}
use Rattle.machine_devices.specs.Serve.{IsServedAt}
use Rattle.machine_devices.specs.Spooling.{with_deck_purged, with_deck_queued}
use Rattle.machine_devices.specs.UserDirectory.{UserDirectory}

-- what can happen to a machine with devices
pub data Event : Type 0 where
  -- it is let run for at most so many units
  Units : ℕ → Event
  -- the device of this address is served
  Serve : ℕ → Event
  -- a line is typed, in this world
  Line : UserDirectory → List ℕ → Event
  -- its timer ticks
  Tick : Event
  -- a deck comes to its reader
  Deck : DeckValue → Event
  -- a message comes to its console
  Message : List ℕ → Event
  -- the deck of this number is withdrawn from its reader, unless it is current
  Purge : ℕ → Event

-- what an event leaves
abbrev pub Leaves : Reading → Event → Equipped → Equipped → Type 0
Leaves reads (Units count) old new = (new.machine ≡ (run count old.machine).machine)
    × (new.devices ≡ old.devices) × (new.disks ≡ old.disks)
Leaves reads (Serve device) old new = (done : Bool) × IsServedAt reads device old done new
Leaves reads (Line world typed) old new = (reported : LineOutcome)
    × IsLine world typed old reported new
Leaves reads Tick old new = (new.machine ≡ ticked old.machine) × (new.devices ≡ old.devices)
    × (new.disks ≡ old.disks)
Leaves reads (Deck deck) old new = new ≡ record old { devices = with_deck_queued old.devices deck }
Leaves reads (Message text) old new = new ≡ record old { machine = printed old.machine text }
Leaves reads (Purge id) old new = new ≡ record old { devices = with_deck_purged old.devices id }

-- what events leave, in order
abbrev pub Lives : Reading → List Event → Equipped → Equipped → Type 0
Lives reads [] old new = new ≡ old
Lives reads (event ∷ events) old new = (next : Equipped) × Leaves reads event old next
    × Lives reads events next new
