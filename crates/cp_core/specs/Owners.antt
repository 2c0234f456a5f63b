-- Whose files are whose: each seat has the files of its own number.
use Rattle.std.specs.Prelude.{◌≡◌, ℕ, List, length, slice_get, Some}
use Rattle.cp_spool.specs.Queues.{QueuesValue}
use Rattle.cp_core.specs.UserMachines.{SeatParts}

-- each place has the user of its number, and the files of each user are there
pub record AreOwners (seats : List SeatParts) (queues : QueuesValue) : Type 0 where
  pub own : (k : ℕ) (s : SeatParts) → slice_get seats k ≡ Some s → s.devices.user ≡ k
  pub as_many : length queues.users ≡ length seats
