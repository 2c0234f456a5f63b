use Rattle.machine_devices.proofs.Attention.{agrees_at_first, goes_on_agreeing}
use Rattle.machine_devices.proofs.laws.attention_agrees.Goals as goal

pub returns-clause-first : goal.returns-clause-first
returns-clause-first c = agrees_at_first

pub returns-clause-later : goal.returns-clause-later
returns-clause-later c = goes_on_agreeing
