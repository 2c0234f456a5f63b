use Rattle.std.proofs.Common.{◌∙◌, ap, map, set, List, Option}
use Rattle.std.proofs.lemmas.List.{map-set}
use Rattle.ckd_volume.specs.Unit.{Disk}
use Rattle.ckd_volume.specs.Volume.{VolumeFormat}
use Rattle.cp_volumes.specs.Shared.{SharedMinidisk, no_volume, volume_in}
use Rattle.cp_volumes.proofs.volumes.Volumes.mount.Goals as goal

pub returns-clause-moved_out : goal.returns-clause-moved_out
returns-clause-moved_out c =
    let i = c.disk.inside.volume in
    let units = c.self.inside.units.items in
    map-set volume_in units i c.take.new.self
    ∙ ap (λ (u : Option Disk). set (map volume_in units) i (volume_in u)) c.take.ensures.after
    ∙ ap (λ (vs : List VolumeFormat). set vs i no_volume) c.self.view_is
    ∙ ap (λ (d : SharedMinidisk). set c.args.self.now d.volume no_volume) c.disk.view_is
