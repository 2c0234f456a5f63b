use Rattle.std.proofs.Common.{◌-◌, vec_len}
use Rattle.cp_ccw.specs.Layout.{real_in}
use Rattle.cp_ccw.specs.Moved.{AreRealBelow}
use Rattle.cp_ccw.proofs.table.nodes_to_real.Given as goal

abbrev pub invariant-nodes : goal.invariant-nodes
invariant-nodes l = AreRealBelow (real_in l.dat) l.count l.fn.nodes.items l.nodes.items

abbrev pub decreases-nodes : goal.decreases-nodes
decreases-nodes l = vec_len l.nodes - l.count
