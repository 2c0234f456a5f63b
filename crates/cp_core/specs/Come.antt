-- What has come to a user of what is delivered.
use Rattle.std.specs.Prelude.{◌≡◌, ◌<◌, length, slice_set, Option, Some, None}
use Rattle.s370_channel.specs.Reading.{as_reached}
use Rattle.machine_devices.specs.Life.{Event as Local, Leaves}
use Rattle.cp_core.specs.System.{SystemView, user_at}
use Rattle.machine_devices.specs.declared.reply.Delivered.{Delivered}
use Rattle.machine_devices.specs.declared.reply.Delivery.{Delivery}

-- it has come to its receiver, and every other user's machine stays
pub record ComesTo (coming : Delivery → Local) (delivered : Delivered)
    (old new : SystemView) : Type 0 where
  pub inside : delivered.to < length old.users
  pub comes : Leaves as_reached (coming delivered.what) (user_at old delivered.to)
      (user_at new delivered.to)
  pub others : new.users ≡ slice_set old.users delivered.to (user_at new delivered.to)

-- the receiver has what was delivered, and no machine has changed otherwise
abbrev pub HasReceived : (Delivery → Local) → Option Delivered → SystemView → SystemView → Type 0
HasReceived coming None old new = new.users ≡ old.users
HasReceived coming (Some delivered) old new = ComesTo coming delivered old new
