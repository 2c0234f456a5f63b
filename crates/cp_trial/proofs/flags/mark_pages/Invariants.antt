use Rattle.std.proofs.Common.{take}
use Rattle.cp_trial.specs.Flags.{AreFlagged}
use Rattle.cp_trial.proofs.flags.mark_pages.Given as goal

abbrev pub invariant-loop-page : goal.invariant-loop-page
invariant-loop-page l = AreFlagged (λ page. page.0) (take l.page-index l.pages) l.initial.wanted.items l.wanted.items
