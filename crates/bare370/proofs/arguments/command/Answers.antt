use Rattle.std.proofs.Common.{◌≡◌, rules}
use Rattle.clap.specs.Words.{app_of, new_app}
use Rattle.programs.proofs.Rules.{one_more}
use Rattle.bare370.proofs.arguments.command.Goals as goal

pub returns : goal.returns
returns c =
    let none : app_of c.about.result ≡ new_app c.args.program.now = search rules in
    let first = one_more _ _ _ _ _ (c.in_ok-arg.ensures.shape c.save.ensures.local) none c.save.ensures.rule in
    let second = one_more _ _ _ _ _ (c.in_ok-arg-2.ensures.shape c.storage.ensures.local) first c.storage.ensures.rule
    in
    let third = one_more _ _ _ _ _ (c.in_ok-arg-3.ensures.shape c.script.ensures.local) second c.script.ensures.rule in
    one_more _ _ _ _ _ (c.in_ok-command.ensures.shape c.volumes.ensures.local) third c.volumes.ensures.rule
