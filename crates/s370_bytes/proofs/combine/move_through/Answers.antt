use Rattle.std.proofs.Common.{rules, arith, ◌≡◌, ◌∙◌, ◌+◌, length, slice_range, ap}
use Rattle.s370_store.specs.Memory.{with_stored}
use Rattle.s370_bytes.specs.declared.combine.Combine.TheVariants.{Move}
use Rattle.s370_bytes.proofs.Changes.{made_is}
use Rattle.s370_bytes.proofs.combine.move_through.Goals as goal

pub returns-clause-stored : goal.returns-clause-stored
returns-clause-stored g c =
    let before = (g.S.Storage.memory c.args.storage.now).bytes in
    let n = length c.args.bytes.now in
    let l : length c.load.new.into ≡ n = omega (arith, c.load.auto.into) in
    c.store.ensures.stored ∙ ap (with_stored (g.S.Storage.memory c.args.storage.now) c.args.to)
    (made_is Move before (slice_range before c.args.to (c.args.to + n)) c.load.new.into c.repeat.new.bytes c.args.to
    c.args.from n c.lag_of-lag.result
    c.requires.inside (c.repeat.ensures.size ∙ l) (search rules) c.load.ensures (search rules)
    (λ j s. c.repeat.ensures.each j (omega arith)))
