-- A unit on trial: the cylinders of a volume, of which some have copies.
use Rattle.std.specs.Prelude.{ℕ, ◌≡◌, ◌⊎◌, List, [], ◌∷◌, Option, None, Some, IsSome}
use Rattle.std.specs.Prelude.{slice_index_or}
use Rattle.ckd_volume.specs.declared.parts.PendingCommand.{PendingCommand}
use Rattle.ckd_volume.specs.declared.parts.PendingCommand.TheVariants as jobs
use Rattle.ckd_volume.specs.Front.{Cylinder}

-- a copy is in the place of its cylinder
abbrev pub overlaid : List Cylinder → List (Option Cylinder) → List Cylinder
overlaid [] copies = []
overlaid (cylinder ∷ cylinders) [] = cylinder ∷ cylinders
overlaid (cylinder ∷ cylinders) (None ∷ copies) = cylinder ∷ overlaid cylinders copies
overlaid (cylinder ∷ cylinders) (Some copy ∷ copies) = copy ∷ overlaid cylinders copies

-- the cylinder under the arm has a copy, or no command is under way
abbrev pub IsReady : List (Option Cylinder) → ℕ → PendingCommand → Type 0
IsReady copies cylinder job = IsSome (slice_index_or copies cylinder None) ⊎ (job ≡ jobs.Nothing)
