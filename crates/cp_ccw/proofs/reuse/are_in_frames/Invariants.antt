use Rattle.std.proofs.Common.{All, take}
use Rattle.cp_ccw.specs.CachedProgram.{IsFrame}
use Rattle.cp_ccw.proofs.reuse.are_in_frames.Given as goal

abbrev pub invariant-loop-one : goal.invariant-loop-one
invariant-loop-one l = All (IsFrame l.dat) (take l.one-index l.held)
