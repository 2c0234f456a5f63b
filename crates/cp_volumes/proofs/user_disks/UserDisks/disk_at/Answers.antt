use Rattle.std.proofs.Common.{◌∙◌, ◌==◌, ap, List}
use Rattle.std.specs.List.{position}
use Rattle.machine_channels.specs.Disks.{is_disk_at}
use Rattle.cp_volumes.specs.Shared.{DisksValue, SharedMinidisk, seen}
use Rattle.cp_volumes.proofs.Seats.{found_at}
use Rattle.cp_volumes.proofs.user_disks.UserDisks.disk_at.Goals as goal

pub returns-clause-index : goal.returns-clause-index
returns-clause-index c =
    c.index_of.ensures.index ∙ ap
    (λ (ds : List SharedMinidisk). position (λ (d : SharedMinidisk). d.address == c.args.device) ds)
    c.deref.ensures.value
    ∙ found_at c.args.device (record { volumes = c.self.inside.volumes; minidisks = c.self.inside.minidisks.items }) ∙
    ap (λ (d : DisksValue). position (is_disk_at c.args.device) (seen d)) c.self.view_is
