use Rattle.s370_cpu.proofs.FewPages.{units_ask_for_few_pages}
use Rattle.s370_cpu.proofs.laws.few_pages_are_asked_for.Goals as goal

pub returns : goal.returns
returns c = units_ask_for_few_pages
