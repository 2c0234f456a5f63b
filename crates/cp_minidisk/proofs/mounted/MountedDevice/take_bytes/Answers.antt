use Rattle.std.proofs.Common.{◌≡◌, sym, ◌∙◌, ap, subst}
use Rattle.s370_walk.specs.Hardware.{after_taking}
use Rattle.ckd_volume.specs.Unit.{Disk}
use Rattle.cp_minidisk.specs.Part.{Serves, part_machine, part_of}
use Rattle.cp_minidisk.proofs.Mounting.{after_taking_alike, after_taking_serving}
use Rattle.cp_minidisk.proofs.mounted.MountedDevice.take_bytes.Goals as goal

pub invariant_of-self : goal.invariant_of-self
invariant_of-self c =
    let e = c.self.inside.extent in
    let P : Disk → Type 0 = λ x. Serves x e in
    subst P (sym c.take_bytes.ensures) (after_taking_serving e c.self.inside.unit c.args.from.now c.self.invariant)

pub returns : goal.returns
returns c =
    let e = c.self.inside.extent in
    let bytes = c.args.from.now in
    ap (part_of e) c.take_bytes.ensures ∙ (after_taking_alike e c.self.inside.unit bytes
    ∙ ap (λ p. after_taking part_machine p bytes) c.self.view_is)
