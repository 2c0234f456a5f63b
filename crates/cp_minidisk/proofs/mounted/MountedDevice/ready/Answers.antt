use Rattle.std.proofs.Common.{◌≡◌, sym, ◌∙◌, ap}
use Rattle.s370_walk.specs.Hardware.{after_giving, after_taking}
use Rattle.cp_minidisk.specs.Part.{part_machine}
use Rattle.cp_minidisk.proofs.Mounting.{done_giving, done_taking}
use Rattle.cp_minidisk.proofs.mounted.MountedDevice.ready.Goals as goal

pub returns-clause-giving : goal.returns-clause-giving
returns-clause-giving c =
    λ n lt. ap (λ p. part_machine.done (after_giving part_machine p n)) (sym c.self.view_is)
    ∙ (sym (done_giving c.self.inside.extent c.self.inside.unit n) ∙ c.ready.ensures.giving n lt)

pub returns-clause-taking : goal.returns-clause-taking
returns-clause-taking c =
    λ bytes lt. ap (λ p. part_machine.done (after_taking part_machine p bytes)) (sym c.self.view_is)
    ∙ (sym (done_taking c.self.inside.extent c.self.inside.unit bytes) ∙ c.ready.ensures.taking bytes lt)
