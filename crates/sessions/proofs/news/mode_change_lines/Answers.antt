use Rattle.std.proofs.Common.{◌∙◌, ◌≡◌, ◌++◌, List, ℕ, sym, subst, arith}
use Rattle.sessions.specs.News.{change_lines}
use Rattle.sessions.specs.Transcript.{ended}
use Rattle.sessions.proofs.Changes.{change_more, no_change}
use Rattle.sessions.proofs.news.mode_change_lines.Goals as goal

pub loop-place-preserved : goal.loop-place-preserved
loop-place-preserved c =
    let k = c.loop-place.place in
    let printed = subst (λ (name : List ℕ). c.append_change.new.out.items ≡ c.loop-place.text.items
    ++ ended (change_lines name c.mode_at-old.result c.mode_at-new.result)) c.deref.ensures.value
    c.in_ok-append_change.ensures in
    change_more (λ name. name.items) c.loop-place.text.items c.append_change.new.out.items c.args.names.now
    c.args.olds.now c.args.news.now k c.index-names-place.result c.mode_at-old.result c.mode_at-new.result
    (omega (arith, c.loop-place-test.true)) c.index-names-place.is c.mode_at-old.ensures c.mode_at-new.ensures
    printed ∙ c.loop-place.invariant
