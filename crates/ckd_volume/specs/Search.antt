-- Searches: what they look for, and when they are satisfied.
use Rattle.std.specs.Prelude.{ℕ, ◌==◌, Bool, true, false, not, ◌&&◌, List, length, take}
use Rattle.std.specs.declared.cmp.Ordering.{Ordering}
use Rattle.std.specs.declared.cmp.Ordering.TheVariants as orders
use Rattle.std.specs.Ordering.{nat_cmp}
use Rattle.std.specs.Cmp.Lexicographic.{slice_cmp}
use Rattle.ckd_volume.specs.declared.parts.Orientation.TheVariants.{Gap, Count, Key}
use Rattle.ckd_volume.specs.declared.parts.WriteAccess.{WriteAccess}
use Rattle.ckd_volume.specs.declared.parts.WriteAccess.TheVariants as rights
use Rattle.ckd_volume.specs.declared.parts.Comparison.{Comparison}
use Rattle.ckd_volume.specs.declared.parts.Comparison.TheVariants as comparisons
use Rattle.ckd_volume.specs.declared.parts.PendingCommand.TheVariants as jobs
use Rattle.ckd_volume.specs.declared.parts.Found.{Found}
use Rattle.ckd_volume.specs.declared.parts.Found.TheVariants.{There, Lost}
use Rattle.ckd_volume.specs.Front.{Front, Cylinder, record_at}
use Rattle.ckd_volume.specs.Begin.{Begun, lost, takes, at, status_modifier, no_status}
use Rattle.ckd_volume.specs.End.{Ended, ends}

-- 39, B9 Search Home Address Equal
abbrev pub home_searched : Front → Found → Begun
home_searched f (Lost head second) = lost f head second
home_searched f (There head i points) = takes (at f head points (Gap 0)) 4 jobs.SearchHome

-- 31, 51, 71, B1, D1, F1 Search Identifier
abbrev pub id_searched : Front → Comparison → Found → Begun
id_searched f comparison (Lost head second) = lost f head second
id_searched f comparison (There head i points) =
    takes (at f head points (Count i)) 5 (jobs.SearchId comparison i)

-- 29, A9 Search Key Equal
abbrev pub key_searched : Front → Cylinder → Found → Begun
key_searched f cylinder (Lost head second) = lost f head second
key_searched f cylinder (There head i points) =
    takes (at f head points (Key i)) (length (record_at cylinder head i).key) (jobs.SearchKey i)

-- what an ordering answers to a comparison
abbrev pub answers : Comparison → Ordering → Bool
answers comparisons.Equal orders.Less = false
answers comparisons.Equal orders.Equal = true
answers comparisons.Equal orders.Greater = false
answers comparisons.High orders.Less = false
answers comparisons.High orders.Equal = false
answers comparisons.High orders.Greater = true
answers comparisons.EqualOrHigh orders.Less = false
answers comparisons.EqualOrHigh orders.Equal = true
answers comparisons.EqualOrHigh orders.Greater = true

-- A short argument is compared with as many bytes; one without bytes is not satisfied.
abbrev pub fits : Comparison → List ℕ → List ℕ → Bool
fits comparison argument there =
    not (length argument == 0) && answers comparison
    (slice_cmp nat_cmp (take (length argument) there) argument)

-- A satisfied search has the status modifier, and gives a right to write.
abbrev pub satisfied : Front → WriteAccess → Bool → Ended
satisfied f right true = ends (record f { right = right }) status_modifier
satisfied f right false = ends f no_status

-- only a search for an equal id does
abbrev pub id_right : Comparison → WriteAccess
id_right comparisons.Equal = rights.Id
id_right comparisons.High = rights.Nothing
id_right comparisons.EqualOrHigh = rights.Nothing
