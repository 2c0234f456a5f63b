use Rattle.std.proofs.Common.{◌-◌, vec_len}
use Rattle.cp_ccw.specs.Layout.{real_in}
use Rattle.cp_ccw.specs.Moved.{AreReal}
use Rattle.cp_ccw.proofs.table.list_to_real.Given as goal

abbrev pub invariant-entries : goal.invariant-entries
invariant-entries l = AreReal (real_in l.dat) l.count l.fn.list.items l.list.items

abbrev pub decreases-entries : goal.decreases-entries
decreases-entries l = vec_len l.list - l.count
