use Rattle.std.proofs.Common.{◌≡◌, rules}
use Rattle.clap.specs.Words.{app_of, new_app}
use Rattle.programs.proofs.Rules.{one_more}
use Rattle.vm370.proofs.follow_arguments.command.Goals as goal

pub returns : goal.returns
returns c =
    let none : app_of c.about.result ≡ new_app c.args.program.now = search rules in
    let first = one_more _ _ _ _ _ (c.in_ok-arg.ensures.shape c.frames.ensures.local) none c.frames.ensures.rule in
    let second = one_more _ _ _ _ _ (c.in_ok-arg-2.ensures.shape c.slots.ensures.local) first c.slots.ensures.rule in
    let third = one_more _ _ _ _ _ (c.in_ok-arg-3.ensures.shape c.save.ensures.local) second c.save.ensures.rule in
    let fourth = one_more _ _ _ _ _ (c.in_ok-arg-4.ensures.shape c.terminals.ensures.local) third
    c.terminals.ensures.rule in
    let fifth = one_more _ _ _ _ _ (c.in_ok-arg-5.ensures.shape c.follow.ensures.local) fourth c.follow.ensures.rule in
    let sixth = one_more _ _ _ _ _ (c.in_ok-arg-6.ensures.shape c.directory.ensures.local) fifth
    c.directory.ensures.rule in
    one_more _ _ _ _ _ (c.in_ok-command.ensures.shape c.volumes.ensures.local) sixth c.volumes.ensures.rule
