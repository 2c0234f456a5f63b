use Rattle.std.proofs.Common.{arith, ◌≡◌, ◌∙◌, sym, ◌++◌, ◌∷◌, [], length, get_or, drop, None}
use Rattle.std.specs.List.{remove}
use Rattle.std.proofs.lemmas.List.Sorted.{length_permutation}
use Rattle.std.specs.Prelude.{IsSome}
use Rattle.cp_frames.specs.Layout.{AreTaken}
use Rattle.cp_frames.proofs.Sought.{all_last}
use Rattle.cp_frames.proofs.Orders.{ordered-last}
use Rattle.cp_frames.proofs.pool.Frames.record_page_in.Goals as goal

pub invariant_of-self : goal.invariant_of-self
invariant_of-self c =
    let f = c.self.inside in
    let within = rw (← c.self.view_is) at c.requires.turn in
    let taken : AreTaken f.owners.items (drop c.args.end f.order) = rw (← c.self.view_is) at c.requires.taken in
    let ordered = ordered-last f.owners.items f.pins f.order c.args.turn c.self.invariant.ordered within in
    let long : length (remove f.order c.args.turn ++ get_or f.order c.args.turn 0 ∷ []) ≡ length f.order =
    length_permutation _ _ ordered.each ∙ sym (length_permutation _ _ c.self.invariant.ordered.each) in
    rw c.move_to_end.ensures (record {
      frame_room = c.self.invariant.frame_room;
      slot_room = c.self.invariant.slot_room;
      whole = c.self.invariant.whole;
      mapped = c.self.invariant.mapped;
      looked = c.self.invariant.looked;
      slots_tabled = c.self.invariant.slots_tabled;
      ordered = ordered;
      sought = record {
        within = omega (arith, c.requires.end, within, long);
        taken = all_last (λ frame. IsSome (get_or f.owners.items frame None)) f.order c.args.end c.args.turn
            c.requires.end within taken;
        before = c.self.invariant.sought.before;
      };
    })
