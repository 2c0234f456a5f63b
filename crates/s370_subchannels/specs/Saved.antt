-- The bytes of subchannels in a saved state.
use Rattle.std.specs.Prelude.{ℕ, List, ◌++◌, map}
use Rattle.saved_bytes.specs.Codes.{each, flag, number}
use Rattle.s370_subchannels.specs.declared.subchannel.DeviceState.{DeviceState}
use Rattle.s370_subchannels.specs.declared.subchannel.DeviceState.TheVariants.{Idle, Working}
use Rattle.s370_subchannels.specs.declared.subchannel.DeviceState.TheVariants.{Pending}
use Rattle.s370_subchannels.specs.declared.subchannel.Subchannel.{Subchannel}

-- which of its states a device is in, and the word that it has there
abbrev pub state_kind : DeviceState → ℕ
state_kind Idle = 0
state_kind (Working caw) = 1
state_kind (Pending csw) = 2

-- the word of a device's state
abbrev pub state_word : DeviceState → ℕ
state_word Idle = 0
state_word (Working caw) = caw
state_word (Pending csw) = csw

-- the bytes of a device's state
abbrev pub state_bytes : DeviceState → List ℕ
state_bytes state = number (state_kind state) ++ number (state_word state)

-- the bytes of one subchannel
abbrev pub subchannel_bytes : Subchannel → List ℕ
subchannel_bytes s = number s.address
    ++ (state_bytes s.state ++ (flag s.attention ++ number s.last_start))

-- the bytes of all subchannels
abbrev pub subchannels_bytes : List Subchannel → List ℕ
subchannels_bytes list = each subchannel_bytes list

-- the addresses of devices, which a state leaves as they are
abbrev pub addresses : List Subchannel → List ℕ
addresses list = map (λ (s : Subchannel). s.address) list
