use Rattle.cp_ccw.proofs.Lending.{lent_mapped, lent_present}
use Rattle.cp_ccw.proofs.laws.held_programs_are_mapped.Goals as goal

pub returns-clause-mapped : goal.returns-clause-mapped
returns-clause-mapped c =
    λ storage keys own owners user p small few pages held.
    lent_mapped storage keys own owners user p small few pages held

pub returns-clause-present : goal.returns-clause-present
returns-clause-present c = λ storage owners user a r e. lent_present storage owners user a r e
