-- The disks of a machine of its own.
use Rattle.std.specs.Prelude.{List}
use Rattle.machine_channels.specs.declared.own.DedicatedChannels.{DedicatedChannels}
use Rattle.machine_channels.specs.Disks.{DiskAt}

-- the disks of a machine of its own
abbrev pub disks_of : DedicatedChannels → List DiskAt
disks_of own = own.disks.items
