use Rattle.std.proofs.Common.{◌≡◌, sym, ◌∙◌, ap}
use Rattle.cp_minidisk.specs.Part.{unit_of}
use Rattle.cp_minidisk.proofs.Mounting.{whole}
use Rattle.cp_minidisk.proofs.mounted.Mounted.dismount.Goals as goal

pub returns-clause-unit : goal.returns-clause-unit
returns-clause-unit c = sym (whole c.self.inside.extent c.self.inside.unit c.self.invariant) ∙ ap unit_of c.self.view_is
