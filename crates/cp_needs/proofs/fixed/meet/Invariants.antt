use Rattle.cp_needs.proofs.Meeting.{MissAll}
use Rattle.cp_needs.proofs.fixed.meet.Given as goal

abbrev pub invariant-loop-piece : goal.invariant-loop-piece
invariant-loop-piece l = MissAll l.text l.pieces l.end l.piece-index
