use Rattle.std.proofs.Common.{◌∙◌, ap, map, set, List, Some}
use Rattle.std.proofs.lemmas.List.{map-set}
use Rattle.ckd_volume.specs.Unit.{volume_of}
use Rattle.ckd_volume.specs.Volume.{VolumeFormat}
use Rattle.cp_minidisk.specs.Part.{unit_of}
use Rattle.cp_volumes.specs.Shared.{SharedMinidisk, volume_in}
use Rattle.cp_volumes.proofs.volumes.Volumes.dismount.Goals as goal

pub returns-clause-volumes : goal.returns-clause-volumes
returns-clause-volumes c =
    let i = c.disk.inside.volume in
    let units = c.self.inside.units.items in
    let left = volume_of (unit_of c.args.mounted) in
    map-set volume_in units i (Some c.dismount-unit.result.0)
    ∙ ap (λ (v : VolumeFormat). set (map volume_in units) i v) (ap volume_of c.dismount-unit.ensures.unit)
    ∙ ap (λ (vs : List VolumeFormat). set vs i left) c.self.view_is
    ∙ ap (λ (d : SharedMinidisk). set c.args.self.now d.volume left) c.disk.view_is
