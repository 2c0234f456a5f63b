use Rattle.std.proofs.Common.{arith, refl, sym, ◌≡◌, ◌∙◌, ℕ, ◌+◌, List, slice_range, ap}
use Rattle.s370_store.specs.Memory.{with_stored}
use Rattle.s370_bytes.specs.declared.combine.Combine.TheVariants.{Move}
use Rattle.s370_bytes.proofs.Places.{length-range}
use Rattle.s370_bytes.proofs.Changes.{made_is, lagged_source}
use Rattle.s370_bytes.proofs.combine.move_string.Goals as goal

pub returns-then-lag_of-count-clause-stored : goal.returns-then-lag_of-count-clause-stored
returns-then-lag_of-count-clause-stored g c =
    let before = (g.S.Storage.memory c.args.storage.now).bytes in
    let n = c.args.count in
    let source : List ℕ = slice_range before c.args.from (c.args.from + n) in
    let all : n ≡ c.lag_of.result = omega (arith, c.lag_of.ensures.within, c.if-lag_of-count.true) in
    c.copy.ensures.stored ∙ ap (with_stored (g.S.Storage.memory c.args.storage.now) c.args.to)
    (made_is Move before (slice_range before c.args.to (c.args.to + n)) source source c.args.to c.args.from n n
    c.requires.inside (length-range before c.args.from n c.requires.source_inside) refl refl (all
    ∙ c.lag_of.ensures.value)
    (λ j s. sym (lagged_source source source n j s)))
