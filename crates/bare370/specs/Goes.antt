-- How a machine of its own goes on, as sessions see it.
use Rattle.std.specs.Prelude.{◌≡◌, ℕ, ◌+◌, ◌<◌, min, false, true, List, [], ◌∷◌, length, map, Some}
use Rattle.std.specs.Prelude.{IsSome}
use Rattle.s370_subchannels.specs.declared.subchannel.Subchannel.{Subchannel}
use Rattle.ckd_volume.specs.Unit.{Disk, idle}
use Rattle.ckd_volume.specs.Volume.{VolumeFormat}
use Rattle.machine_channels.specs.Disks.{DiskAt}
use Rattle.machine_devices.specs.Comes.{LineMay}
use Rattle.machine_devices.specs.Events.{user_of}
use Rattle.machine_devices.specs.declared.event.Event.{Event}
use Rattle.machine_devices.specs.declared.places.Places.{Places}
use Rattle.machine_devices.specs.declared.reply.Reply.{Reply}
use Rattle.machine_devices.specs.Spooling.{deck_queued}
use Rattle.session_script.specs.Script.{EventValue, Run, Line, Tick, Serve, Auto, Deck, Transfer}
use Rattle.bare_installation.specs.Bare.{Bare, bare, world_of}
use Rattle.bare_installation.specs.Forgotten.{GoesOnAs as BareGoesOn}
use Rattle.bare_installation.specs.Life.{IsApplied, LacksMemory, MayLackMemory}
use Rattle.sessions.specs.Installed.{Installation, Installed, as_said}

-- the machine, and the addresses of its devices as scripts know them
pub record Alone : Type 0 where
  pub machine : Bare
  pub addresses : List ℕ

-- its one user has the number 0
abbrev pub own : ℕ
own = 0

-- what a session sees of a single machine
abbrev pub seen_in : Alone → Installed
seen_in a = record {
  users = record { name = bare; devices = a.addresses } ∷ [];
  machines = a.machine.equipped ∷ [];
  files = a.machine.files;
}

-- the event that was said is one of its user, happened to the machine, and was answered so
pub record HasHappened (old : Alone) (said : EventValue) (reply : Reply) (new : Alone)
    : Type 0 where
  pub event : Event
  pub own : user_of event ≡ own
  pub named : as_said event ≡ said
  pub applied : IsApplied old.machine event reply new.machine
  pub addresses : new.addresses ≡ old.addresses

-- it may be refused memory by this machine, of which nothing is said then
pub record MayLack (old : Alone) (said : EventValue) (new : Alone) : Type 0 where
  pub event : Event
  pub named : as_said event ≡ said
  pub lacks : MayLackMemory old.machine event

-- what was said may want memory: such lines, a program that does, a deck that has cards, and one
-- that is moved
abbrev pub MayRefuse : Alone → EventValue → Type 0
MayRefuse old (Run user units) = ⊥
MayRefuse old (Line user text) =
    LineMay (world_of old.machine) text old.machine.equipped
MayRefuse old (Tick user) = ⊥
MayRefuse old (Serve user device) = LacksMemory device old.machine
MayRefuse old (Deck user cards) = 0 < length cards
MayRefuse old (Transfer user id to) = IsSome (deck_queued old.machine.equipped.devices id)
MayRefuse old (Auto turns) = ⊥

-- one machine goes on as another, and its devices have the same addresses
pub record GoesOnAs (one other : Alone) : Type 0 where
  pub machine : BareGoesOn one.machine other.machine
  pub addresses : one.addresses ≡ other.addresses

-- it has no saved states
abbrev pub machine_goes : Installation Alone
machine_goes = record {
  seen = seen_in;
  Happens = HasHappened;
  May = MayRefuse;
  Lacks = MayLack;
  is_spent = λ a. false;
  has_states = false;
  IsSaved = λ a bytes. ⊥;
  IsUserSaved = λ a user bytes. ⊥;
  HasSameBase = λ a b. Unit {0};
  GoesOnAs = GoesOnAs;
}

-- console, reader, punch and printer are at 009, 00C, 00D and 00E
abbrev pub usual_places : Places
usual_places = record { console = Some 9; reader = Some 12; punch = Some 13; printer = Some 14 }

-- a disk over this volume that may be written, its arm at the first track
abbrev pub first_disk : VolumeFormat → Disk
first_disk volume =
    idle volume (record {
      cylinder = 0;
      head = 0;
      home = 0;
      writable = true;
      sense = record { first = 0; second = 0 };
    })

-- a disk over each of these volumes, in their order: the first has this address, each other that
-- after the one before, up to the last that there is
abbrev pub disks_from : ℕ → List VolumeFormat → List DiskAt
disks_from address [] = []
disks_from address (volume ∷ volumes) =
    record { address = address; unit = first_disk volume } ∷ disks_from (min (address + 1) 65535)
    volumes

-- the addresses of these devices
abbrev pub addresses_of : List Subchannel → List ℕ
addresses_of devices = map (λ device. device.address) devices
