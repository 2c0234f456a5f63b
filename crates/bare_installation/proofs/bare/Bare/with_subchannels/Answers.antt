use Rattle.std.proofs.Common.{◌∙◌, ap}
use Rattle.s370_store.specs.Plain.{plain_memory}
use Rattle.machine_panel.specs.Machine.{machine_of}
use Rattle.bare_installation.proofs.bare.Bare.with_subchannels.Goals as goal

pub returns-clause-machine : goal.returns-clause-machine
returns-clause-machine c =
    ap (machine_of c.new.result) c.clear.ensures.memory ∙ c.new.ensures.machine (plain_memory c.args.storage)
