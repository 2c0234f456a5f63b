use Rattle.std.proofs.Common.{◌∙◌, ap}
use Rattle.s370_store.specs.Plain.{plain_memory}
use Rattle.machine_panel.specs.Ready.{is_ready}
use Rattle.bare_installation.specs.Bare.{Bare}
use Rattle.bare_installation.proofs.bare.Bare.is_ready.Goals as goal

pub returns : goal.returns
returns c = c.is_ready.ensures (plain_memory c.self.inside.storage) ∙ ap (λ (b : Bare). is_ready b.equipped.machine)
    c.self.view_is
