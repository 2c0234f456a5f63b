use Rattle.further_users.proofs.laws.further_users_take_no_turn.Goals as goal

pub returns : goal.returns
returns c = λ one made count same. c.one_by_saved.ensures made (record one { most_users = count }) same
