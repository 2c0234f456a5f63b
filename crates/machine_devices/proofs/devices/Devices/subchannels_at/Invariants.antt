use Rattle.std.proofs.Common.{◌≡◌, ◌≤◌, length}
use Rattle.machine_devices.specs.Devices.{has_at, subchannels_below}
use Rattle.cp_spool.specs.Queues.{no_files}
use Rattle.machine_devices.specs.Lent.{devices_with}
use Rattle.machine_devices.proofs.devices.Devices.subchannels_at.Given as goal

abbrev pub invariant-loop-address : goal.invariant-loop-address
invariant-loop-address l = record {
  are : l.subchannels ≡ subchannels_below (has_at (devices_with l.fn.self no_files) l.fn.addresses) l.address;
  few : length l.subchannels ≤ 32;
}
