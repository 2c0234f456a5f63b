use Rattle.logon_desk.proofs.Busiest.{SoFar}
use Rattle.logon_desk.proofs.strangers.busiest.Given as goal

abbrev pub invariant-loop-place : goal.invariant-loop-place
invariant-loop-place l = SoFar l.connections l.place l.found l.most l.latest
