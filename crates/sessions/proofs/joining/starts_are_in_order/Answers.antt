use Rattle.sessions.proofs.Started.{all_started, in_starts_order}
use Rattle.sessions.proofs.joining.starts_are_in_order.Goals as goal

pub returns-clause-ordered : goal.returns-clause-ordered
returns-clause-ordered c = in_starts_order

pub returns-clause-complete : goal.returns-clause-complete
returns-clause-complete c = all_started
