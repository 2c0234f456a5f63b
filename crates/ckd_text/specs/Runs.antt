-- What mkvol and trackmap do for the words of a command line.
use Rattle.std.specs.Prelude.{◌≡◌, ◌⊎◌, ℕ, true, List, [], codes, Option}
use Rattle.program_host.specs.Deeds.{Adds, Deed}
use Rattle.program_host.specs.Ends.{IsToldUse}
use Rattle.program_host.specs.Words.{IsNamedBy, is_taken, rows_named}
use Rattle.ckd_text.specs.Hosts.{Giving}
use Rattle.ckd_text.specs.Made.{IsMade, IsUnmade}
use Rattle.ckd_text.specs.Mapped.{IsMapped, IsUnmapped}
use Rattle.ckd_text.specs.Options.{AreNamed, NamesImage, gives, mkvol_command, trackmap_command}
use Rattle.ckd_text.specs.declared.arguments.VolumePaths.{VolumePaths}
use Rattle.ckd_text.specs.declared.faults.ToolFailure.{ToolFailure}
use Rattle.ckd_text.specs.declared.faults.ToolFailure.TheVariants as failures

-- ---- the words

-- these words name no image and text
abbrev pub IsMkvolMisused : List (List ℕ) → Type 0
IsMkvolMisused words = is_taken mkvol_command words ≡ true
    → gives (codes "OUT") (rows_named mkvol_command words) ≡ true
    → gives (codes "TEXT") (rows_named mkvol_command words) ≡ true → ⊥

-- these words name no image
abbrev pub IsTrackmapMisused : List (List ℕ) → Type 0
IsTrackmapMisused words = is_taken trackmap_command words ≡ true
    → gives (codes "IMAGE") (rows_named trackmap_command words) ≡ true → ⊥

-- no file was asked for: memory was refused, or this holds, a usage error, which was told
abbrev pub IsUnbegun : Type 0 → Option (List Deed) → Option (List Deed) → ToolFailure → Type 0
IsUnbegun Misuse old new failure = ((failure ≡ failures.Memory) × Adds old new [])
    ⊎ ((failure ≡ failures.Usage) × Misuse × IsToldUse old new)

-- ---- mkvol

-- an image was made by the paths that these words name
abbrev pub IsMadeNamed : {F W : Type 0} → (List ℕ → Giving F)
    → (List ℕ → Giving W) → (F → Option (List ℕ))
    → (W → Option (List ℕ)) → (W → List ℕ) → List (List ℕ) → Option (List Deed)
    → Option (List Deed) → Type 0
IsMadeNamed Opens Creates remaining contents held words old new = (paths : VolumePaths)
    × IsNamedBy AreNamed mkvol_command words paths
    × IsMade Opens Creates remaining contents held paths old new

-- nothing was begun, or no image was made by those paths
abbrev pub IsUnmadeNamed : {F W : Type 0} → (List ℕ → Giving F)
    → (List ℕ → Giving W) → (F → Option (List ℕ)) → (F → ℕ)
    → (W → Option (List ℕ)) → (W → ℕ) → List (List ℕ) → Option (List Deed)
    → Option (List Deed) → ToolFailure → Type 0
IsUnmadeNamed Opens Creates remaining read_failures contents failures words old new failure =
    IsUnbegun (IsMkvolMisused words) old new failure
    ⊎ ((paths : VolumePaths) × IsNamedBy AreNamed mkvol_command words paths
    × IsUnmade Opens Creates remaining read_failures contents failures paths old new failure)

-- ---- trackmap

-- the map of the image was printed that these words name
abbrev pub IsMappedNamed : {F P : Type 0} → (List ℕ → Giving F)
    → Giving P → (F → Option (List ℕ)) → (P → Option (List ℕ))
    → (P → List ℕ) → List (List ℕ) → Option (List Deed)
    → Option (List Deed) → Type 0
IsMappedNamed Opens Prints remaining contents held words old new = (path : List ℕ)
    × IsNamedBy NamesImage trackmap_command words path
    × IsMapped Opens Prints remaining contents held path old new

-- nothing was begun, or the map of that image was not printed
abbrev pub IsUnmappedNamed : {F P : Type 0} → (List ℕ → Giving F)
    → Giving P → (F → Option (List ℕ)) → (F → ℕ)
    → (P → Option (List ℕ)) → (P → ℕ) → List (List ℕ) → Option (List Deed)
    → Option (List Deed) → ToolFailure → Type 0
IsUnmappedNamed Opens Prints remaining read_failures contents failures words old new failure =
    IsUnbegun (IsTrackmapMisused words) old new failure
    ⊎ ((path : List ℕ) × IsNamedBy NamesImage trackmap_command words path
    × IsUnmapped Opens Prints remaining read_failures contents failures path old new failure)
