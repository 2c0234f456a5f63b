-- IPL: the initial program loading of a machine (GA22-7000, "Initial Program Loading";
-- docs/COMMANDS.md).
use Rattle.std.specs.Prelude.{ℕ, ◌≡◌, ◌==◌, ◌&&◌, Bool, true, false, List, [], ◌∷◌, slice_range}
use Rattle.std.specs.Int.{w16, to_be_bytes}
use Rattle.s370_psw.specs.Fields.{loaded as loaded_psw}
use Rattle.s370_store.specs.Access.{Touches, put}
use Rattle.s370_store.specs.declared.Access.TheVariants.{Store}
use Rattle.s370_walk.specs.declared.parts.Ending.{Ending}
use Rattle.s370_store.specs.Memory.{memory_of}
use Rattle.s370_walk.specs.Hardware.{Machine as Device, area}
use Rattle.s370_channel.specs.declared.running.ChannelError.{ChannelError}
use Rattle.s370_channel.specs.declared.running.ChannelError.TheVariants as errors
use Rattle.cp_console.specs.Responses.{text_of}
use Rattle.cp_console.specs.declared.responses.Response.TheVariants.{IplFailed}
use Rattle.machine_panel.specs.Machine.{Machine, printed, reset, started}
use Rattle.machine_channels.specs.Channels.{WalksLoading}
use Rattle.machine_devices.specs.Equipped.{storage_in, with_bytes}

-- channel end and device end alone: nothing went wrong
abbrev pub is_good : Ending → Bool
is_good ending = ending.unit.bits == 0x0C && ending.channel.bits == 0x00

-- the address of the device is at location 2
abbrev pub with_address : ℕ → List ℕ → List ℕ
with_address device bytes = put bytes 2 (to_be_bytes w16 device)

-- the machine runs from the PSW at location 0
abbrev pub running : Machine → List ℕ → Machine
running m bytes = started (with_bytes m bytes) (loaded_psw (slice_range bytes 0 8))

-- what a program that ended well, or did not, leaves of a machine that was reset, with the bytes
-- that it read
abbrev pub left_by : Bool → ℕ → Machine → List ℕ → Machine
left_by true device m bytes = running m (with_address device bytes)
left_by false device m bytes = printed (with_bytes m bytes) (text_of IplFailed)

-- the machine is reset, and the program of the loading runs as a whole
pub record IsLoaded {D : Type 0} (machine : Device D) (device : ℕ) (old : Machine) (part : D)
    (well : Bool) (new : Machine) (part' : D) : Type 0 where
  pub ending : Ending
  pub bytes : List ℕ
  pub walk : WalksLoading machine (storage_in old) part ending
      (memory_of bytes old.core.processor.keys) part'
  pub reported : well ≡ is_good ending
  pub left : new ≡ left_by (is_good ending) device (reset old) bytes

-- the page of the PSW that is to be loaded is not present
abbrev pub LacksPsw : (ℕ → Bool) → ChannelError → Type 0
LacksPsw present errors.Memory = ⊥
LacksPsw present (errors.Absent page) = (present page.0 ≡ false)
    × Touches (area Store 0 8 ∷ []) page.0
