use Rattle.cp_core.proofs.Dropped.{HasForgotten}
use Rattle.cp_core.proofs.system.System.forget_files.Given as goal

abbrev pub invariant-loop-place : goal.invariant-loop-place
invariant-loop-place l = HasForgotten l.fn.self l.self l.since l.place
