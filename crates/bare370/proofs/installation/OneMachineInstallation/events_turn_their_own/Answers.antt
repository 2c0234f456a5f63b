use Rattle.bare370.proofs.Turned.{starts_its_own, turns_its_own}
use Rattle.bare370.proofs.installation.OneMachineInstallation.events_turn_their_own.Goals as goal

pub returns-clause-turns : goal.returns-clause-turns
returns-clause-turns c = turns_its_own c.only_lines_turn.ensures

pub returns-clause-starts : goal.returns-clause-starts
returns-clause-starts c = starts_its_own c.each_is_life.ensures c.what_works_has_a_program.ensures.numbered
