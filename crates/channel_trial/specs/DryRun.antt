-- A program that was tried on a copy of its storage: what it will come to, and the pages that it
-- touches.
use Rattle.std.specs.Prelude.{◌≡◌, ℕ, ◌/◌, Bool, true, false, List, length, slice_index}
use Rattle.std.specs.Prelude.{slice_index_or}
use Rattle.s370_channel.specs.declared.words.Caw.{Caw}
use Rattle.s370_channel.specs.Guest.{guest_written}
use Rattle.s370_channel.specs.Loading.{loading, loading_limits}
use Rattle.s370_channel.specs.Progress.{setting}
use Rattle.s370_channel.specs.Runs.{begun, limited}
use Rattle.s370_channel.specs.Supplied.{IsTouched}
use Rattle.s370_walk.specs.declared.parts.Ending.{Ending}
use Rattle.s370_store.specs.Memory.{Memory}
use Rattle.s370_walk.specs.Hardware.{Machine}
use Rattle.s370_walk.specs.Walk.{Over, Reaches, Setting, State, live}

-- the walk reaches an end, with these bytes; the pages with a flag are touched by it, and the
-- others have the bytes that they had
pub record IsTried {D : Type 0} (h : Setting D) (from : State D) (m : Memory) (bytes : List ℕ)
    (touched : List Bool) : Type 0 where
  pub ending : Ending
  pub device : D
  pub comes : Reaches (live guest_written) h from
      (Over ending (record { bytes = bytes; keys = m.keys }) device)
  pub touches : (page : ℕ) → slice_index_or touched page false ≡ true
      → IsTouched guest_written h from page
  pub other_users : (address : ℕ) → slice_index_or touched (address / 4096) false ≡ false
      → slice_index bytes address ≡ slice_index m.bytes address
  pub size : length bytes ≡ length m.bytes

-- the program with this start was tried
abbrev pub IsProgramTried : {D : Type 0} → Machine D → Caw → Memory → D → List ℕ → List Bool
    → Type 0
IsProgramTried machine start m d bytes touched =
    IsTried (limited machine start) (begun start m d) m bytes touched

-- the program of an initial program loading was tried
abbrev pub IsLoadingTried : {D : Type 0} → Machine D → Memory → D → List ℕ → List Bool → Type 0
IsLoadingTried machine m d bytes touched =
    IsTried (setting machine loading_limits) (loading machine m d) m bytes touched
