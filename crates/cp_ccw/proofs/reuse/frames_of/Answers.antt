use Rattle.std.proofs.Common.{Some, ap, ◌∙◌, sym}
use Rattle.std.proofs.lemmas.Option.{slice_get-get_or}
use Rattle.cp_ccw.proofs.Keeping.{node_only, nodes_all, nodes_on}
use Rattle.cp_ccw.proofs.reuse.frames_of.Goals as goal

pub loop-node-preserved : goal.loop-node-preserved
loop-node-preserved c = record {
  noted = nodes_on c.args.dat.now c.args.nodes.now c.loop-node.node-index c.loop-node.held.items
      c.note_list.new.held.items c.node-item.result c.loop-node.invariant.noted c.in_ok-note_list.ensures.grows
      (slice_get-get_or c.args.nodes.now c.loop-node.node-index c.node-item.result c.loop-node-test.true ∙ ap Some
      (sym c.node-item.is)) (rw c.deref.ensures.value at c.in_ok-note_list.ensures.noted);
  only = λ h there. node_only c.args.nodes.now c.loop-node.node-index c.node-item.result h
      (slice_get-get_or c.args.nodes.now c.loop-node.node-index c.node-item.result c.loop-node-test.true ∙ ap Some
      (sym c.node-item.is)) (c.loop-node.invariant.only h)
      (rw c.deref.ensures.value at (c.in_ok-note_list.ensures.only h there));
  stand = c.in_ok-note_list.ensures.stand c.loop-node.invariant.stand;
}

pub returns-clause-noted : goal.returns-clause-noted
returns-clause-noted c =
    nodes_all c.args.dat.now c.args.nodes.now c.loop-node.node-index c.loop-node.held.items c.loop-node-test.false
    c.loop-node.invariant.noted
