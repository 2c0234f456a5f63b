-- How an event is refused, and what is so where memory was refused to it.
use Rattle.std.specs.Prelude.{◌≡◌, ◌<◌, ◌≤◌, ◌↔◌, ℕ, true, false, length, Result, Err}
use Rattle.machine_devices.specs.declared.reply.Reply.{Reply}
use Rattle.cp_core.specs.declared.events.CpError.{CpError}
use Rattle.cp_core.specs.declared.events.CpError.TheVariants as errors
use Rattle.machine_devices.specs.declared.event.Event.{Event}
use Rattle.machine_devices.specs.Events.{user_of}
use Rattle.cp_core.specs.Keeps.{KeepsCutShort}
use Rattle.cp_core.specs.Memory.{HadRoomFor, MayTakeMemory, is_cut_short}
use Rattle.cp_core.specs.Stated.{LacksDevice}
use Rattle.cp_core.specs.Supply.{IsSuppliedInPart}
use Rattle.cp_core.specs.System.{SystemView, user_at}

-- by a spent system, of an unknown user, or for a device that his directory lacks; then nothing has
-- happened
pub record IsRefused (old : SystemView) (event : Event) (new : SystemView)
    (r : Result Reply CpError) : Type 0 where
  pub spent : (r ≡ Err errors.Spent) ↔ (old.is_spent ≡ true)
  pub unchanged_if_spent : r ≡ Err errors.Spent → new ≡ old
  pub no_such_user : (r ≡ Err errors.NoSuchUser)
      ↔ ((old.is_spent ≡ false) × (length old.users ≤ user_of event))
  pub not_stated : r ≡ Err errors.NoSuchUser → length old.directory ≤ user_of event
  pub unchanged_for_nobody : r ≡ Err errors.NoSuchUser → new ≡ old
  pub no_such_device : (r ≡ Err errors.NoSuchDevice)
      ↔ ((old.is_spent ≡ false) × (user_of event < length old.users) × LacksDevice old event)
  pub unchanged_for_no_device : r ≡ Err errors.NoSuchDevice → new ≡ old

-- for lack of memory: the system is spent, and every machine is as it was that is not cut short
pub record IsOutOfMemory (old : SystemView) (event : Event) (new : SystemView)
    (r : Result Reply CpError) : Type 0 where
  pub memory : r ≡ Err errors.Memory → (new.is_spent ≡ true) × MayTakeMemory old event
  pub roomy : r ≡ Err errors.Memory → HadRoomFor old event new
  pub supplied_without_memory : r ≡ Err errors.Memory → IsSuppliedInPart old event new
  pub kept_without_memory : r ≡ Err errors.Memory → KeepsCutShort old event new
  pub unchanged_without_memory : r ≡ Err errors.Memory → (user : ℕ)
      → is_cut_short old event user ≡ false → user_at new user ≡ user_at old user
