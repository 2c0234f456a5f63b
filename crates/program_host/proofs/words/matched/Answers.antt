use Rattle.std.proofs.Common.{inl}
use Rattle.program_host.specs.Words.{HasNoFault, is_taken, rows_named}
use Rattle.program_host.proofs.words.matched.Goals as goal

pub returns-in-Ok-clause-ok : goal.returns-in-Ok-clause-ok
unfolding rows_named
returns-in-Ok-clause-ok g c simple = (c.in-Ok.ensures.matches simple).0

pub returns-in-Err-clause-err : goal.returns-in-Err-clause-err
unfolding is_taken
returns-in-Err-clause-err g c taken = c.refusal.ensures.memory.1 (inl (c.in-Err.ensures.passes taken))

pub returns-in-Ok-clause-taken : goal.returns-in-Ok-clause-taken
unfolding HasNoFault
returns-in-Ok-clause-taken g c simple = c.in-Ok.ensures.kinds simple
