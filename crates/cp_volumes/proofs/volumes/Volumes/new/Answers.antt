use Rattle.std.proofs.Common.{◌<◌, ◌∙◌, ◌++◌, ◌∷◌, [], List, Option, Some, arith, ap, length, map}
use Rattle.std.proofs.lemmas.List.{map-append}
use Rattle.ckd_volume.specs.Unit.{Disk, volume_of}
use Rattle.ckd_volume.specs.Volume.{VolumeFormat}
use Rattle.cp_volumes.specs.Shared.{volume_in}
use Rattle.cp_volumes.proofs.Seats.{there_more}
use Rattle.cp_volumes.proofs.volumes.Volumes.new.Goals as goal

pub loop-volume-preserved : goal.loop-volume-preserved
loop-volume-preserved c =
    let some : 0 < length c.in-Some.volume.cylinders =
    omega (arith, c.count-cylinders.ensures.count, c.count-cylinders.ensures.some) in
    record {
      units = ap (λ (us : List (Option Disk)). map volume_in us) c.in_ok-push.ensures.items
          ∙ map-append volume_in c.loop-volume.units.items (Some c.in_ok-unit.unit ∷ [])
          ∙ ap (λ (vs : List VolumeFormat). vs ++ volume_of c.in_ok-unit.unit ∷ []) c.loop-volume.invariant.units
          ∙ ap (λ (unit : Disk). c.loop-volume.yielded ++ volume_of unit ∷ []) c.in_ok-unit.ensures;
      there = there_more c.loop-volume.yielded c.in-Some.volume c.loop-volume.invariant.there some;
    }
