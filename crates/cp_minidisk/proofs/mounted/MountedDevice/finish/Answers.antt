use Rattle.std.proofs.Common.{◌≡◌, sym, ◌∙◌, ap, subst}
use Rattle.ckd_volume.specs.Unit.{Disk, disk_machine}
use Rattle.cp_minidisk.specs.Part.{Serves, part_machine, part_of}
use Rattle.cp_minidisk.proofs.Mounting.{ends_alike, finishes_part, finishes_serving}
use Rattle.cp_minidisk.proofs.mounted.MountedDevice.finish.Goals as goal

pub invariant_of-self : goal.invariant_of-self
invariant_of-self c =
    let e = c.self.inside.extent in
    let P : Disk → Type 0 = λ x. Serves x e in
    subst P (sym (c.finish.ensures.after ∙ ap (λ x. disk_machine.finished x) c.relocate_seek.ensures))
    (finishes_serving e c.self.inside.unit c.self.invariant)

pub returns-clause-status : goal.returns-clause-status
returns-clause-status c =
    c.finish.ensures.status
    ∙ (ap (λ x. disk_machine.status x) c.relocate_seek.ensures
    ∙ (ends_alike c.self.inside.extent c.self.inside.unit c.self.invariant
    ∙ ap (λ p. part_machine.status p) c.self.view_is))

pub returns-clause-after : goal.returns-clause-after
returns-clause-after c =
    let e = c.self.inside.extent in
    ap (part_of e) (c.finish.ensures.after ∙ ap (λ x. disk_machine.finished x) c.relocate_seek.ensures)
    ∙ (finishes_part e c.self.inside.unit c.self.invariant ∙ ap (λ p. part_machine.finished p) c.self.view_is)
