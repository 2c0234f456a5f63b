use Rattle.s370_cpu.proofs.WholeTable.{problem_state_holds, units_stay_in_their_rights}
use Rattle.s370_cpu.proofs.laws.problem_state_holds.Goals as goal

pub returns-clause-instruction : goal.returns-clause-instruction
returns-clause-instruction c = problem_state_holds

pub returns-clause-unit : goal.returns-clause-unit
returns-clause-unit c = units_stay_in_their_rights
