-- The programs on which devices work: one that was started runs as a whole, at one moment
-- (docs/MACHINE.md, "Channel").
use Rattle.std.specs.Prelude.{ℕ, List, Option, Some, None}
use Rattle.std.specs.Int.{w64, from_be_bytes}
use Rattle.s370_walk.specs.declared.parts.Ending.{Ending}
use Rattle.s370_channel.specs.declared.words.Caw.{Caw}
use Rattle.s370_channel.specs.Words.{caw_of, csw_bytes, ending_word}
use Rattle.s370_subchannels.specs.declared.subchannel.DeviceState.{DeviceState}
use Rattle.s370_subchannels.specs.declared.subchannel.DeviceState.TheVariants.{Idle, Working}
use Rattle.s370_subchannels.specs.declared.subchannel.DeviceState.TheVariants.{Pending}
use Rattle.s370_subchannels.specs.declared.subchannel.Subchannel.{Subchannel}
use Rattle.s370_subchannels.specs.Subchannels.{ended, found, with_state}

-- the channel status word that says how a program with this key ended
abbrev pub status_word : ℕ → Ending → ℕ
status_word key ending = from_be_bytes w64 (csw_bytes (ending_word key ending))

-- the start of the program on which a device works: its channel address word is good, as it is in
-- each that was started
abbrev pub start_in : DeviceState → Option Caw
start_in Idle = None
start_in (Working caw) = caw_of caw
start_in (Pending csw) = None

-- the start of the program on which a device works, if there is such a device and it works
abbrev pub start_of : Option Subchannel → Option Caw
start_of None = None
start_of (Some s) = start_in s.state

-- the start of the program on which the device of this address works
abbrev pub program_of : ℕ → List Subchannel → Option Caw
program_of device list = start_of (found device list)

-- its program has ended so, and its status is pending, with attention where it has some to give
abbrev pub program_ended_at : Option Subchannel → ℕ → ℕ → Ending → List Subchannel → List Subchannel
program_ended_at None device key ending list = list
program_ended_at (Some s) device key ending list =
    with_state device (ended s.attention (status_word key ending)) list

-- the program of the device of this address has ended
abbrev pub program_ended : ℕ → ℕ → Ending → List Subchannel → List Subchannel
program_ended device key ending list = program_ended_at (found device list) device key ending list
