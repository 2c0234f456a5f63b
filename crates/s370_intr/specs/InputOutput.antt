-- What input/output instructions are answered, and input/output interruptions: GA22-7000,
-- "Input/Output Instructions" and "Input/Output Interruption".
use Rattle.std.specs.Prelude.{ℕ, List}
use Rattle.std.specs.Int.{w64, to_be_bytes}
use Rattle.s370_store.specs.Access.{put}
use Rattle.s370_store.specs.Memory.{memory_of}
use Rattle.s370_rows.specs.declared.ending.IoOperation.{IoOperation}
use Rattle.s370_rows.specs.State.{State, state_of}
use Rattle.s370_rows.specs.Registers.{with_condition}
use Rattle.s370_subchannels.specs.declared.subchannel.DeviceState.TheVariants.{Idle}
use Rattle.s370_subchannels.specs.declared.subchannel.Status.{Status}
use Rattle.s370_subchannels.specs.declared.subchannel.Subchannel.{Subchannel}
use Rattle.s370_subchannels.specs.Subchannels.{with_state}
use Rattle.s370_subchannels.specs.Answers.{AnswerNeeds, Devices, answered as device_answered}
use Rattle.s370_subchannels.specs.Answers.{devices_of}
use Rattle.s370_intr.specs.declared.class.Class.TheVariants.{InputOutput}
use Rattle.s370_intr.specs.Swap.{swapped}

-- a processor with its storage, and the subchannels of its devices
pub record Configuration : Type 0 where
  pub processor : State
  pub subchannels : List Subchannel

-- the processor with these subchannels
abbrev pub configuration_of : State → List Subchannel → Configuration
configuration_of processor subchannels = record { processor = processor; subchannels = subchannels }

-- what an answer works on
abbrev pub devices_in : Configuration → Devices
devices_in c = devices_of c.subchannels (memory_of c.processor.bytes c.processor.keys)

-- the answer sets the condition code, and what it stores is stored
abbrev pub answered : IoOperation → ℕ → Configuration → Configuration
answered operation device c =
    let a = device_answered operation device (devices_in c) in
    configuration_of (state_of (with_condition c.processor.cpu a.condition)
    (memory_of a.left.bytes a.left.keys)) a.left.subchannels

-- the pages that an answer needs
abbrev pub AskNeeds : IoOperation → ℕ → Configuration → ℕ → Type 0
AskNeeds operation device c page = AnswerNeeds operation device (devices_in c) page

-- the channel status word at location 64
abbrev pub csw_stored : ℕ → State → State
csw_stored csw m = record m { bytes = put m.bytes 64 (to_be_bytes w64 csw) }

-- a status interrupts: its channel status word is stored, its device is the interruption code, and
-- idle from then on
abbrev pub presented : Status → Configuration → Configuration
presented status c =
    configuration_of (swapped (csw_stored status.csw c.processor) InputOutput status.device 0)
    (with_state status.device Idle c.subchannels)
