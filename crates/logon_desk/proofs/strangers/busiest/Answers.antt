use Rattle.std.proofs.Common.{◌≡◌, ◌<◌, ◌≤◌, ℕ, List, Some, IfNone, Option, None, false, get_or, length, ◌∙◌, ap}
use Rattle.std.proofs.Common.{sym, arith}
use Rattle.std.proofs.lemmas.List.{get_or_default}
use Rattle.std.specs.List.{All}
use Rattle.logon_desk.specs.Connection.{gone}
use Rattle.logon_desk.specs.Strangers.{is_stranger, strangers_from}
use Rattle.logon_desk.specs.declared.connection.Connection.{Connection}
use Rattle.logon_desk.proofs.Busiest.{found_more, kept_more, passed_more, renamed}
use Rattle.logon_desk.proofs.Steps.{read_there}
use Rattle.logon_desk.proofs.strangers.busiest.Goals as goal
use Rattle.logon_desk.proofs.strangers.busiest.Goals.{then-is_stranger+then-goes_first}
use Rattle.logon_desk.proofs.strangers.busiest.Goals.{then-is_stranger+else-goes_first, else-is_stranger}

pub loop-place-preserved : goal.loop-place-preserved
loop-place-preserved c =
    let connections = c.args.connections.now in
    let here : get_or connections c.loop-place.place gone ≡ c.index-connections-place.result =
    read_there connections c.loop-place.place c.index-connections-place.result c.loop-place-test.true
    c.index-connections-place.is in
    let reported : is_stranger (get_or connections c.loop-place.place gone) ≡ c.is_stranger.result = ap is_stranger here
    ∙ sym c.is_stranger.ensures in
    let from : strangers_from connections c.index-connections-place.result.address ≡ strangers_from connections
    (get_or connections c.loop-place.place gone).address =
    ap (λ (x : Connection). strangers_from connections x.address) (sym here) in
    let ends : c.index-connections-place.result.patience.deadline ≡ (get_or connections c.loop-place.place
    gone).patience.deadline = ap (λ (x : Connection). x.patience.deadline) (sym here) in
    elim c.if-is_stranger.branch [
      | then-is_stranger+then-goes_first w ↦
          renamed connections _ _ _ _ _ _ _ w.found-is w.most-is w.latest-is
          (found_more connections c.loop-place.place c.loop-place.found c.loop-place.most c.loop-place.latest
          w.strangers_from-count.result c.index-connections-place.result.patience.deadline
          c.loop-place.invariant c.loop-place-test.true (reported ∙ w.if-is_stranger.true)
          (w.strangers_from-count.ensures ∙ from) ends (w.goes_first.ensures.above w.if-goes_first.true)
          (w.goes_first.ensures.later w.if-goes_first.true))
      | then-is_stranger+else-goes_first w ↦
          renamed connections _ _ _ _ _ _ _ w.found-is w.most-is w.latest-is
          (kept_more connections c.loop-place.place c.loop-place.found c.loop-place.most c.loop-place.latest
          w.strangers_from-count.result c.index-connections-place.result.patience.deadline c.loop-place.invariant
          (w.strangers_from-count.ensures ∙ from) ends (w.goes_first.ensures.below w.if-goes_first.false)
          (w.goes_first.ensures.earlier w.if-goes_first.false))
      | else-is_stranger w ↦
          renamed connections _ _ _ _ _ _ _ w.found-is w.most-is w.latest-is
          (passed_more connections c.loop-place.place c.loop-place.found c.loop-place.most c.loop-place.latest
          c.loop-place.invariant (reported ∙ w.if-is_stranger.false))
    ]

none_at : (connections : List Connection) (place : ℕ) (found : Option ℕ) → length connections ≤ place
    → IfNone found ((k : ℕ) → k < place → is_stranger (get_or connections k gone) ≡ false)
    → IfNone found (All (λ (connection : Connection). is_stranger connection ≡ false) connections)
none_at connections place None h none = λ k d within. ap is_stranger (get_or_default connections k d gone within)
    ∙ none k (omega arith)
none_at connections place (Some c) h none = tt

pub returns-clause-none : goal.returns-clause-none
returns-clause-none c = none_at c.args.connections.now c.loop-place.place c.loop-place.found
    (omega arith) c.loop-place.invariant.none
