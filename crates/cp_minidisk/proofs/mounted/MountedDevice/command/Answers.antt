use Rattle.std.proofs.Common.{◌≡◌, sym, ◌∙◌, ap, subst}
use Rattle.ckd_volume.specs.Unit.{Disk, disk_machine}
use Rattle.cp_minidisk.specs.Part.{Serves, part_machine, part_of}
use Rattle.cp_minidisk.proofs.Mounting.{answers, starts_part, starts_serving, begun_ok, onward_ok, answer_ok}
use Rattle.cp_minidisk.proofs.mounted.MountedDevice.command.Goals as goal

pub invariant_of-self : goal.invariant_of-self
invariant_of-self c =
    let e = c.self.inside.extent in
    let u = c.self.inside.unit in
    let P : Disk → Type 0 = λ x. Serves x e in
    subst P (sym (begun_ok c.command.result _ _ c.command.ensures.ready c.command.ensures.after))
    (starts_serving e u c.self.invariant c.args.order)

pub returns-clause-answer : goal.returns-clause-answer
returns-clause-answer c =
    let e = c.self.inside.extent in
    let u = c.self.inside.unit in
    answer_ok c.command.result _ _ (answers e u c.self.invariant c.args.order
    ∙ ap (λ p. part_machine.answer p c.args.order) c.self.view_is) c.command.ensures.answer

pub returns-clause-after : goal.returns-clause-after
returns-clause-after c =
    let e = c.self.inside.extent in
    let u = c.self.inside.unit in
    onward_ok c.command.result _ _
    (ap (part_of e) (begun_ok c.command.result _ _ c.command.ensures.ready c.command.ensures.after)
    ∙ (starts_part e u c.self.invariant c.args.order ∙ ap (λ p. part_machine.started p c.args.order) c.self.view_is))
