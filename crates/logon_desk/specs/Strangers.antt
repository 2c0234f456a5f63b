-- Those who are about to log on.
use Rattle.std.specs.Prelude.{ℕ, ◌≡◌, ◌≤◌, ◌<◌, ◌==◌, ◌&&◌, Bool, true, false, List, count_by}
use Rattle.std.specs.Prelude.{length}
use Rattle.std.specs.Prelude.{slice_index_or}
use Rattle.logon_desk.specs.Connection.{gone}
use Rattle.logon_desk.specs.declared.connection.Connection.{Connection}
use Rattle.logon_desk.specs.declared.connection.Stage.{Stage}
use Rattle.logon_desk.specs.declared.connection.Stage.TheVariants.{Gone, Naming, Asking, Waiting}
use Rattle.logon_desk.specs.declared.connection.Stage.TheVariants.{Judged}
use Rattle.logon_desk.specs.declared.connection.Stage.TheVariants.{Refused, On}

-- whether nobody is logged on at a connection in this stage
abbrev pub is_stage_of_stranger : Stage → Bool
is_stage_of_stranger Gone = false
is_stage_of_stranger Naming = true
is_stage_of_stranger (Asking name) = true
is_stage_of_stranger (Waiting guess) = true
is_stage_of_stranger (Judged guess) = true
is_stage_of_stranger Refused = true
is_stage_of_stranger (On user) = false

-- whether nobody is logged on at a connection
abbrev pub is_stranger : Connection → Bool
is_stranger connection = is_stage_of_stranger connection.stage

-- whether a stranger is connected from this address
abbrev pub comes_from : ℕ → Connection → Bool
comes_from address connection = is_stranger connection && (connection.address == address)

-- how many strangers come from an address
abbrev pub strangers_from : List Connection → ℕ → ℕ
strangers_from connections address = count_by (comes_from address) connections

-- a stranger from whose address no fewer strangers have come than from any other's, and no stranger
-- from an address as busy has a later deadline
pub record IsBusiest (connections : List Connection) (c : ℕ) : Type 0 where
  pub stranger : is_stranger (slice_index_or connections c gone) ≡ true
  pub most : (other : ℕ) → other < length connections
      → is_stranger (slice_index_or connections other gone) ≡ true
      → strangers_from connections (slice_index_or connections other gone).address
      ≤ strangers_from connections (slice_index_or connections c gone).address
  pub latest : (other : ℕ) → other < length connections
      → is_stranger (slice_index_or connections other gone) ≡ true
      → strangers_from connections (slice_index_or connections other gone).address
      ≡ strangers_from connections (slice_index_or connections c gone).address
      → (slice_index_or connections other gone).patience.deadline
      ≤ (slice_index_or connections c gone).patience.deadline
