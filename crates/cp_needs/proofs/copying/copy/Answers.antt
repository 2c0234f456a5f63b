use Rattle.std.proofs.Common.{◌≡◌, ◌≤◌, ◌<◌, ◌%◌, ◌∙◌, List, ap, arith, length, slice_index_or, subst, sym, ℕ}
use Rattle.std.proofs.lemmas.List.{get_or_read, length-replicate}
use Rattle.s370_walk.specs.declared.places.CcwLocation.{CcwLocation}
use Rattle.s370_walk.specs.Copy.{guest_of, past}
use Rattle.cp_needs.specs.Closure.{IsReachedPlace}
use Rattle.cp_needs.proofs.Tables.{copy_of, grown_length, rows_on, rows_none, held_push, held_none, linked_grown}
use Rattle.cp_needs.proofs.Tables.{linked_is_place}
use Rattle.cp_needs.proofs.Closures.{absent_served, first_reached}
use Rattle.cp_needs.proofs.Marking.{unmarked_few}
use Rattle.cp_needs.proofs.copying.copy.Goals as goal

pub link-requires-clause-few : goal.link-requires-clause-few
link-requires-clause-few g c =
    let few = unmarked_few c.new-index.result in
    let slots = ap (λ (index : List ℕ). length index) c.new-index.ensures ∙ length-replicate _ 0 in
    omega (arith, few, slots, c.new-places.ensures.len, c.size.ensures.bytes)

pub places-init : goal.places-init
places-init g c =
    let slots = ap (λ (index : List ℕ). length index) c.new-index.ensures ∙ length-replicate _ 0 in
    record {
      rows = rw c.new-nodes.ensures.items (rows_none c.link.new.places.items (g.S.Storage.memory c.args.storage.now));
      held = rw c.new-nodes.ensures.items (held_none (length (g.S.Storage.memory c.args.storage.now).bytes)
          (g.S.Storage.present c.args.storage.now));
      reached = first_reached (g.S.Storage.memory c.args.storage.now) c.args.start _ c.link.new.places.items
          c.new-places.ensures.items c.in-Ok.ensures.followed;
      known = c.in-Ok.ensures.known;
      few = (let few = unmarked_few c.new-index.result in omega
          (arith, few, c.in-Ok.ensures.count, slots, c.new-places.ensures.len, c.size.ensures.bytes));
      room = omega (arith, c.in-Ok.ensures.size, slots, c.size.ensures.bytes);
      behind = omega (arith, c.new-nodes.ensures.len);
      linked = c.in-Ok.ensures.linked;
    }

pub copy_word-requires-clause-even : goal.copy_word-requires-clause-even
copy_word-requires-clause-even g c =
    let places = c.places.places.items in
    let at = c.len-in-places-2.result in
    let lt : at < length places = omega (arith, c.places-test.true, c.places.places.ok.0, c.places.nodes.ok.0) in
    let is : c.index-place.result.now ≡ slice_index_or places at
    (past at) = get_or_read places at _ lt c.index-place.ensures (past at) in
    ap (λ (p : CcwLocation). p.address % 8) is ∙ c.places.invariant.known.even at lt

pub places-preserved : goal.places-preserved
places-preserved g c =
    let places = c.places.places.items in
    let nodes = c.places.nodes.items in
    let new = c.copy_word.new.places.items in
    let m = g.S.Storage.memory c.args.storage.now in
    let at = c.len-in-places-2.result in
    let lt : at < length places = omega (arith, c.places-test.true, c.places.places.ok.0, c.places.nodes.ok.0) in
    let number : at ≡ length nodes = omega (arith, c.places.nodes.ok.0) in
    let is : c.index-place.result.now ≡ slice_index_or places at
    (past at) = get_or_read places at _ lt c.index-place.ensures (past at) in
    let address : c.index-place.result.now.address ≡ guest_of places (length nodes) = ap
    (λ (p : CcwLocation). p.address) is ∙ ap (guest_of places) number in
    let room : length new ≤ 2147483648 = omega (
      arith,
      c.in-Ok-copy_word.ensures.count,
      c.places.invariant.few,
      c.copy_word.new.places.ok.0,
    ) in
    let behind : length nodes < length places = omega (arith, lt, number) in
    record {
      rows = rows_on places new nodes c.push.new.self.items m c.index-place.result.now.address c.in-Ok-copy_word.node
          c.in-Ok-push.ensures.items c.in-Ok-copy_word.ensures.grown room behind address c.places.invariant.rows
          c.in-Ok-copy_word.ensures.row;
      held = held_push nodes c.push.new.self.items c.in-Ok-copy_word.node _ _ c.in-Ok-push.ensures.items
          c.places.invariant.held c.in-Ok-copy_word.ensures.present;
      reached = c.in-Ok-copy_word.ensures.reached c.args.start
          (subst (IsReachedPlace m c.args.start) (sym is) (c.places.invariant.reached at (past at) lt))
          c.places.invariant.reached;
      known = c.in-Ok-copy_word.ensures.known;
      few = omega (arith, c.in-Ok-copy_word.ensures.count, c.places.invariant.few);
      room = c.in-Ok-copy_word.ensures.size ∙ c.places.invariant.room;
      behind = (let more = grown_length places new c.in-Ok-copy_word.ensures.grown in
          omega (arith, more, behind, c.in-Ok-push.ensures.len, c.copy_word.new.places.ok.0, c.places.nodes.ok.0));
      linked = linked_grown places new m _ _ _ c.in-Ok-copy_word.ensures.grown room c.places.invariant.linked;
    }

pub returns-clause-copy : goal.returns-clause-copy
returns-clause-copy g c =
    let few : length c.places.places.items ≤ 2147483648 = omega (arith, c.places.invariant.few, c.places.places.ok.0) in
    copy_of c.places.places.items c.places.nodes.items (g.S.Storage.memory c.args.storage.now) few
    (omega (arith, c.places-test.false, c.places.invariant.behind, c.places.places.ok.0, c.places.nodes.ok.0))
    c.places.invariant.rows

pub returns-clause-place : goal.returns-clause-place
returns-clause-place g c =
    linked_is_place c.places.places.items (g.S.Storage.memory c.args.storage.now) c.args.start c.in-Ok.first
    (omega (arith, c.places.invariant.few, c.places.places.ok.0)) c.places.invariant.linked

pub returns-in-Err-copy_word-clause-absent : goal.returns-in-Err-copy_word-clause-absent
returns-in-Err-copy_word-clause-absent g c =
    let places = c.places.places.items in
    let at = c.len-in-places-2.result in
    let lt : at < length places = omega (arith, c.places-test.true, c.places.places.ok.0, c.places.nodes.ok.0) in
    let is : c.index-place.result.now ≡ slice_index_or places at
    (past at) = get_or_read places at _ lt c.index-place.ensures (past at) in
    let m = g.S.Storage.memory c.args.storage.now in
    absent_served m _ _ c.args.start c.index-place.result.now c.in-Err-copy_word.error
    (subst (IsReachedPlace m c.args.start) (sym is) (c.places.invariant.reached at (past at) lt))
    c.in-Err-copy_word.ensures.absent
