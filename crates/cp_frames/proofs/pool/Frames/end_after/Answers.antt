use Rattle.std.proofs.Common.{◌≡◌, ◌<◌, ◌+◌, arith, length, get_or, drop, None, Option, ap, sym, ◌∙◌, inl, inr}
use Rattle.std.specs.Prelude.{All, IsSome, is_some}
use Rattle.std.proofs.lemmas.List.{get_or_read}
use Rattle.cp_frames.specs.declared.numbers.UserPage.{UserPage}
use Rattle.cp_frames.specs.Layout.{AreTaken}
use Rattle.cp_frames.specs.Paging.{IsChosen}
use Rattle.cp_frames.proofs.Orders.{order_within}
use Rattle.cp_frames.proofs.Sought.{taken_from, taken_all, not_some}
use Rattle.cp_frames.proofs.pool.Frames.end_after.Goals as goal

pub index-requires : goal.index-requires
index-requires c =
    let f = c.self.inside in
    let turn_in : c.args.turn < length f.order = rw (← c.self.view_is) at c.requires.turn in
    let read = c.frame_at.ensures in
    let within = order_within f.owners.items f.pins f.order c.self.invariant.ordered c.args.turn 0 turn_in
    in
    omega (arith, within, read, f.owners.ok.0)

pub returns-then-is_none-clause-taken : goal.returns-then-is_none-clause-taken
returns-then-is_none-clause-taken c =
    let f = c.self.inside in
    let turn_in : c.args.turn < length f.order = rw (← c.self.view_is) at c.requires.turn in
    let within = order_within f.owners.items f.pins f.order c.self.invariant.ordered c.args.turn 0 turn_in
    in
    let later : AreTaken f.owners.items (drop (c.args.turn + 1) f.order) =
    rw (← c.self.view_is) at c.requires.later in
    rw (← c.self.view_is) (λ page. taken_from f.owners.items f.order c.args.turn page turn_in within later)

pub returns-else-is_none-clause-taken : goal.returns-else-is_none-clause-taken
returns-else-is_none-clause-taken c =
    let f = c.self.inside in
    let turn_in : c.args.turn < length f.order = rw (← c.self.view_is) at c.requires.turn in
    let read = c.frame_at.ensures in
    let frames = order_within f.owners.items f.pins f.order c.self.invariant.ordered in
    let within : get_or f.order c.args.turn 0 < length f.owners.items = frames c.args.turn 0 turn_in in
    let here : c.index.result.now ≡ get_or f.owners.items (get_or f.order c.args.turn 0) None =
    get_or_read f.owners.items _ _ (omega (arith, within, read)) c.index.ensures None ∙ ap
    (λ k. get_or f.owners.items k None) read in
    let some : IsSome (get_or f.owners.items (get_or f.order c.args.turn 0) None) =
    ap (λ (o : Option UserPage). is_some o) (sym here) ∙ c.if-is_none.ensures in
    let chosen : IsChosen (record {
      owners = f.owners.items;
      slots = f.slot_owners.items;
      pins = f.pins;
      order = f.order;
      page_ins = f.page_ins;
    }) c.args.turn = rw (← c.self.view_is) at c.requires.chosen in
    let full : All IsSome f.owners.items = elim chosen [
      | inl free ↦ absurd (not_some (get_or f.owners.items (get_or f.order c.args.turn 0) None) free some)
      | inr held ↦ held.0
    ] in
    rw (← c.self.view_is) (λ page.
    taken_all f.owners.items f.order (get_or f.order c.args.turn 0) page within frames full)
