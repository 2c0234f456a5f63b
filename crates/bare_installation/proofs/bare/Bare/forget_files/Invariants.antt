use Rattle.bare_installation.proofs.Dropped.{HasForgotten}
use Rattle.bare_installation.proofs.bare.Bare.forget_files.Given as goal

abbrev pub invariant-loop-place : goal.invariant-loop-place
invariant-loop-place l = HasForgotten l.fn.self l.self l.since l.place
