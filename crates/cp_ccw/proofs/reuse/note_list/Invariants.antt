use Rattle.std.proofs.Common.{All, Contains, take, ◌⊎◌}
use Rattle.cp_ccw.specs.declared.kept.PageInFrame.{PageInFrame}
use Rattle.cp_ccw.specs.CachedProgram.{Grows, IsFrame, IsNoted, IsOfList}
use Rattle.cp_ccw.proofs.reuse.note_list.Given as goal

abbrev pub invariant-loop-said : goal.invariant-loop-said
invariant-loop-said l = record {
  grows : Grows l.initial.held.items l.held.items;
  only : (h : PageInFrame) → Contains l.held.items h → Contains l.initial.held.items h ⊎ IsOfList l.list h;
  noted : All (IsNoted l.dat l.held.items) (take l.said-index l.list);
  stand : All (IsFrame l.dat) l.initial.held.items → All (IsFrame l.dat) l.held.items;
}
