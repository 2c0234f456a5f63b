-- A machine together with the parts of its devices, and its disks.
use Rattle.std.specs.Prelude.{ℕ, List, [], ◌++◌}
use Rattle.s370_store.specs.Memory.{Memory, memory_of}
use Rattle.s370_subchannels.specs.Subchannels.{attended}
use Rattle.machine_panel.specs.Machine.{Machine, Parts, machine_of, unused, with_subchannels}
use Rattle.machine_channels.specs.Disks.{DiskAt}
use Rattle.machine_devices.specs.Devices.{DevicesValue, devices_new, no_places}

-- a machine with its devices and its disks
pub record Equipped : Type 0 where
  pub machine : Machine
  pub devices : DevicesValue
  -- in the order in which they were attached
  pub disks : List DiskAt

-- the parts of both, the disks of the channels, and the storage, which are lent
abbrev pub equipped : Parts → DevicesValue → List DiskAt → Memory → Equipped
equipped parts devices disks m =
    record { machine = machine_of parts m; devices = devices; disks = disks }

-- the machine of nobody
abbrev pub nobody : Equipped
nobody = record {
  machine = unused (memory_of [] []) [];
  devices = devices_new no_places;
  disks = [];
}

-- the device has attention to give
abbrev pub with_attended : ℕ → Machine → Machine
with_attended device m = with_subchannels m (attended device m.core.subchannels)

-- these lines more on the console
abbrev pub with_lines : Machine → List (List ℕ) → Machine
with_lines m lines = record m { output = m.output ++ lines }

-- these bytes of storage
abbrev pub with_bytes : Machine → List ℕ → Machine
with_bytes m bytes = record
    m { core = record m.core { processor = record m.core.processor { bytes = bytes } } }

-- the storage, as channel programs have it
abbrev pub storage_in : Machine → Memory
storage_in m = memory_of m.core.processor.bytes m.core.processor.keys
