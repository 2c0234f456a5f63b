use Rattle.cp_dat.proofs.Once.{comes_once, stays_to_the_end}
use Rattle.cp_dat.proofs.laws.a_page_comes_once_for_a_unit.Goals as goal

pub returns-clause-once : goal.returns-clause-once
returns-clause-once c = comes_once

pub returns-clause-stays : goal.returns-clause-stays
returns-clause-stays c = stays_to_the_end
