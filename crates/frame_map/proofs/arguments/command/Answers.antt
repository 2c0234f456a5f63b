use Rattle.programs.proofs.Rules.{one_more}
use Rattle.frame_map.proofs.arguments.command.Goals as goal

pub returns : goal.returns
returns c =
    one_more _ _ _ _ _ (c.in_ok-command.ensures.shape c.state.ensures.local) c.in_ok-known.ensures
    c.state.ensures.rule
