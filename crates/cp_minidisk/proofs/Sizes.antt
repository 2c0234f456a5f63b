-- No step of a disk changes how many cylinders it has.
use Rattle.std.specs.Prelude.{◌≡◌, refl, Bool, true, false, if◌then◌else◌, length, Option, None, Some}
use Rattle.std.proofs.lemmas.List.{length-set}
use Rattle.s370_walk.specs.declared.parts.Order.{Order}
use Rattle.ckd_volume.specs.declared.control.Seek.{Seek}
use Rattle.ckd_volume.specs.End.{stands}
use Rattle.ckd_volume.specs.Unit.{Disk, under, aimed, is_ipl, ending, after, moved, seek_of, is_seeking, disk_machine}

aimed_size : (d : Disk) (b : Bool) → length (aimed d b).cylinders ≡ length d.cylinders
aimed_size d true = refl
aimed_size d false = refl

-- Starting a command changes no number of cylinders.
pub started_size : (d : Disk) (order : Order) → length (disk_machine.started d order).cylinders ≡ length d.cylinders
started_size d order = aimed_size d (is_ipl order)

moved_size : (d : Disk) (s : Option Seek) → length (moved d s).cylinders ≡ length d.cylinders
moved_size d None = refl
moved_size d (Some s) = refl

-- Finishing a command changes no number of cylinders.
pub finished_size : (d : Disk) → length (disk_machine.finished d).cylinders ≡ length d.cylinders
finished_size d = by_job (is_seeking d.front.job)
  where
    by_job : (b : Bool) → length (if b then moved d (seek_of d) else after d (ending d)).cylinders ≡ length d.cylinders
    by_job true = moved_size d (seek_of d)
    by_job false = length-set d.cylinders d.cylinder (stands (under d) d.front.head (ending d).written)
