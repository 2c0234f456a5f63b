use Rattle.s370_intr.proofs.NinePages.{nine_pages, nine_pages_each}
use Rattle.s370_intr.proofs.laws.a_unit_needs_at_most_nine_pages.Goals as goal

pub returns-clause-unit : goal.returns-clause-unit
returns-clause-unit c = nine_pages

pub returns-clause-run : goal.returns-clause-run
returns-clause-run c = nine_pages_each
