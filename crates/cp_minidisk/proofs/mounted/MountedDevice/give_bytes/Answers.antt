use Rattle.std.proofs.Common.{◌≡◌, sym, ◌∙◌, ap, subst, length}
use Rattle.s370_walk.specs.Hardware.{given, after_giving}
use Rattle.ckd_volume.specs.Unit.{Disk}
use Rattle.cp_minidisk.specs.Part.{Serves, part_machine, part_of}
use Rattle.cp_minidisk.proofs.Mounting.{given_alike, after_giving_alike, after_giving_serving}
use Rattle.cp_minidisk.proofs.mounted.MountedDevice.give_bytes.Goals as goal

pub invariant_of-self : goal.invariant_of-self
invariant_of-self c =
    let e = c.self.inside.extent in
    let P : Disk → Type 0 = λ x. Serves x e in
    subst P (sym c.give_bytes.ensures.after) (after_giving_serving e c.self.inside.unit
    (length c.args.into.now) c.self.invariant)

pub returns-clause-bytes : goal.returns-clause-bytes
returns-clause-bytes c =
    let n = length c.args.into.now in
    c.give_bytes.ensures.bytes ∙ (given_alike c.self.inside.extent c.self.inside.unit n
    ∙ ap (λ p. given part_machine p n) c.self.view_is)

pub returns-clause-after : goal.returns-clause-after
returns-clause-after c =
    let e = c.self.inside.extent in
    let n = length c.args.into.now in
    ap (part_of e) c.give_bytes.ensures.after ∙ (after_giving_alike e c.self.inside.unit n
    ∙ ap (λ p. after_giving part_machine p n) c.self.view_is)
