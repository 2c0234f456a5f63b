use Rattle.std.proofs.Common.{arith, ◌≡◌, ◌∙◌, sym, ◌++◌, ◌∷◌, [], length, get_or}
use Rattle.std.specs.List.{remove}
use Rattle.std.proofs.lemmas.List.Sorted.{length_permutation}
use Rattle.cp_frames.proofs.Sought.{none_taken}
use Rattle.cp_frames.proofs.Orders.{ordered-last}
use Rattle.cp_frames.proofs.pool.Frames.put_last.Goals as goal

pub invariant_of-self : goal.invariant_of-self
invariant_of-self c =
    let f = c.self.inside in
    let within = rw (← c.self.view_is) at c.requires in
    let ordered = ordered-last f.owners.items f.pins f.order c.args.turn c.self.invariant.ordered within in
    let long : length (remove f.order c.args.turn ++ get_or f.order c.args.turn 0 ∷ []) ≡ length f.order =
    length_permutation _ _ ordered.each ∙ sym (length_permutation _ _ c.self.invariant.ordered.each) in
    let end = c.len-self-inside.ensures in
    rw c.move_to_end.ensures (record {
      frame_room = c.self.invariant.frame_room;
      slot_room = c.self.invariant.slot_room;
      whole = c.self.invariant.whole;
      mapped = c.self.invariant.mapped;
      looked = c.self.invariant.looked;
      slots_tabled = c.self.invariant.slots_tabled;
      ordered = ordered;
      sought = record {
        within = omega (arith, end, long);
        taken = none_taken f.owners.items (remove f.order c.args.turn ++ get_or f.order c.args.turn 0 ∷ [])
            c.len-self-inside.result (omega (arith, end, long));
        before = c.self.invariant.sought.before;
      };
    })
