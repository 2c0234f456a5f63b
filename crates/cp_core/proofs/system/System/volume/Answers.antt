use Rattle.std.specs.Prelude.{slice_get}
use Rattle.std.proofs.Common.{◌∙◌, ap}
use Rattle.cp_core.specs.System.{SystemView}
use Rattle.cp_core.proofs.system.System.volume.Goals as goal

pub returns : goal.returns
returns c = c.volume.ensures.there c.self.invariant.0.there ∙ ap (λ (s : SystemView). slice_get s.volumes c.args.index)
    c.self.view_is
