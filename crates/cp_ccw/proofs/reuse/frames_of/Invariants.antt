use Rattle.std.proofs.Common.{◌≡◌, ◌<◌, All, Some, ℕ}
use Rattle.std.specs.List.{slice_get}
use Rattle.cp_needs.specs.Table.{program_of}
use Rattle.cp_needs.specs.declared.program.Node.{Node}
use Rattle.cp_ccw.specs.CachedProgram.{AreNotedOnly, IsFrame, IsNoted}
use Rattle.cp_ccw.proofs.reuse.frames_of.Given as goal

abbrev pub invariant-loop-node : goal.invariant-loop-node
invariant-loop-node l = record {
  noted : (i : ℕ) → i < l.node-index → (node : Node) → slice_get l.nodes i ≡ Some node
      → All (IsNoted l.dat l.held.items) node.list.items;
  only : AreNotedOnly l.held.items (program_of l.nodes);
  stand : All (IsFrame l.dat) l.held.items;
}
