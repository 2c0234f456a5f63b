-- The starts of devices, in whose order they are served (docs/MACHINE.md, "Channel").
use Rattle.std.specs.Prelude.{ℕ, nat_le, Bool, true, false, ◌&&◌}
use Rattle.s370_subchannels.specs.declared.subchannel.DeviceState.{DeviceState}
use Rattle.s370_subchannels.specs.declared.subchannel.DeviceState.TheVariants.{Idle, Working}
use Rattle.s370_subchannels.specs.declared.subchannel.DeviceState.TheVariants.{Pending}
use Rattle.s370_subchannels.specs.declared.subchannel.Subchannel.{Subchannel}

-- whether a device works on a program
abbrev pub works : DeviceState → Bool
works Idle = false
works (Working caw) = true
works (Pending csw) = false

-- the device works, and its start has this number or a higher one
abbrev pub is_started : ℕ → Subchannel → Bool
is_started number s = works s.state && nat_le number s.last_start
