use Rattle.std.proofs.Common.{◌≡◌, ◌∙◌, Some, None, ap, sym}
use Rattle.std.specs.List.{position}
use Rattle.sessions.specs.Schedule.{is_before}
use Rattle.sessions.proofs.Lined.{placed, unplaced}
use Rattle.sessions.proofs.starts.put_in_order.Goals as goal

pub returns-in_ok-insert-in-Some : goal.returns-in_ok-insert-in-Some
returns-in_ok-insert-in-Some c =
    let d = c.args.d in
    let items = c.args.started.now.items in
    let place : position (is_before d) items ≡ Some c.in-Some.place =
    ap (position (is_before d)) (sym c.deref.ensures.value) ∙ (sym c.place_in_order.ensures ∙ c.in-Some.is) in
    c.in_ok-insert-in-Some.ensures.items ∙ sym (placed d items c.in-Some.place place)

pub returns-in_ok-push-in-None : goal.returns-in_ok-push-in-None
returns-in_ok-push-in-None c =
    let d = c.args.d in
    let items = c.args.started.now.items in
    let place : position (is_before d) items ≡ None =
    ap (position (is_before d)) (sym c.deref.ensures.value) ∙ (sym c.place_in_order.ensures ∙ c.in-None.is) in
    c.in_ok-push-in-None.ensures.items ∙ sym (unplaced d items place)
