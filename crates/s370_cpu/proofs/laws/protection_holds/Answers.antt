use Rattle.s370_cpu.proofs.WholeTable.{protection_holds, units_are_protected}
use Rattle.s370_cpu.proofs.laws.protection_holds.Goals as goal

pub returns-clause-instruction : goal.returns-clause-instruction
returns-clause-instruction c = protection_holds

pub returns-clause-unit : goal.returns-clause-unit
returns-clause-unit c = units_are_protected
