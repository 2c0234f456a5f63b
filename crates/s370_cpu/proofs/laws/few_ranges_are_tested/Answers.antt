use Rattle.s370_cpu.proofs.FewTests.{few_tests}
use Rattle.s370_cpu.proofs.laws.few_ranges_are_tested.Goals as goal

pub returns : goal.returns
returns c = few_tests
