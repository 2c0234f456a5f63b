use Rattle.machine_devices.proofs.OneLife.{lines_are_one, lives_are_apart, lives_are_one}
use Rattle.machine_devices.proofs.OneReply.{outcomes_are_one}
use Rattle.machine_devices.proofs.laws.a_life_comes_to_one_end.Goals as goal

pub returns-clause-life : goal.returns-clause-life
returns-clause-life c = lives_are_one

pub returns-clause-line : goal.returns-clause-line
returns-clause-line c = lines_are_one

pub returns-clause-apart : goal.returns-clause-apart
returns-clause-apart c = lives_are_apart

pub returns-clause-reported : goal.returns-clause-reported
returns-clause-reported c = outcomes_are_one
