use Rattle.further_users.proofs.Appended.{longer_states_keep_users}
use Rattle.further_users.proofs.laws.further_users_change_nobody.Goals as goal

pub returns : goal.returns
returns c = longer_states_keep_users c.one_by_saved.ensures
