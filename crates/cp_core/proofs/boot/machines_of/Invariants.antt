use Rattle.std.proofs.Common.{◌≡◌, take, length, map, ℕ, Some}
use Rattle.std.specs.Prelude.{slice_get}
use Rattle.cp_core.specs.UserMachines.{SeatParts, unowned}
use Rattle.cp_placement.specs.Seating.{AreLawful, minidisks_at}
use Rattle.cp_core.specs.Whole.{AreNew}
use Rattle.cp_core.proofs.boot.machines_of.Given as goal

abbrev pub invariant-loop-user : goal.invariant-loop-user
invariant-loop-user l = record {
  new : AreNew l.volumes (map unowned l.machines.items) (take l.user-index l.users);
  owners : (k : ℕ) (s : SeatParts) → slice_get l.machines.items k ≡ Some s → s.devices.user ≡ k;
  count : length l.machines.items ≡ l.user-index;
  lawful : (k : ℕ) → AreLawful (minidisks_at (take l.user-index l.users) k);
}
