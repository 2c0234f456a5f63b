use Rattle.std.proofs.Common.{length, arith, refl}
use Rattle.std.proofs.lemmas.Option.{slice_get_read}
use Rattle.cp_ccw.specs.Layout.{real_in}
use Rattle.cp_ccw.proofs.Moving.{node_on, all_nodes}
use Rattle.cp_ccw.proofs.table.nodes_to_real.Goals as goal

pub nodes-preserved : goal.nodes-preserved
nodes-preserved c = node_on (real_in c.args.dat.now) c.nodes.count c.args.nodes.now.items c.nodes.nodes.items
    c.index_mut.result.now record { word = c.index_mut.result.now.word; list = c.list_to_real.new.list }
    c.nodes.invariant
    (slice_get_read c.nodes.nodes.items (length c.nodes.nodes.items) c.nodes.count c.index_mut.result.now refl
    (omega (arith, c.nodes-test.true, c.nodes.nodes.ok.0)) c.index_mut.ensures.value) refl c.list_to_real.ensures

pub returns : goal.returns
returns c = all_nodes (real_in c.args.dat.now) c.nodes.count c.args.nodes.now.items c.nodes.nodes.items
    c.nodes.invariant (omega (arith, c.nodes-test.false, c.nodes.nodes.ok.0))
