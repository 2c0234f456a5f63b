use Rattle.std.proofs.Common.{rules, arith, ◌≡◌, ◌∙◌, length, ap}
use Rattle.s370_store.specs.Memory.{with_stored}
use Rattle.s370_bytes.specs.Combine.{made_of}
use Rattle.s370_bytes.proofs.Places.{length-range}
use Rattle.s370_bytes.proofs.Changes.{made_is}
use Rattle.s370_bytes.proofs.combine.combine_through.Given.{Over}
use Rattle.s370_bytes.proofs.combine.combine_through.Goals.{After-store}
use Rattle.s370_bytes.proofs.combine.combine_through.Goals as goal

made_here : (g : Over) (c : After-store g) → c.combine_all.new.target ≡ made_of c.args.operation
    (g.S.Storage.memory c.args.storage.now).bytes c.args.to c.args.from (length c.args.made.now)
made_here g c =
    let n = length-range (g.S.Storage.memory c.args.storage.now).bytes c.args.to
    (length c.args.made.now) c.requires.inside in
    let l : length c.load.new.into ≡ length c.args.made.now = ap length c.load.ensures ∙ n in
    made_is c.args.operation (g.S.Storage.memory c.args.storage.now).bytes c.load.new.into c.load-2.new.into
    c.combine_all.new.target c.args.to c.args.from (length c.args.made.now) c.lag_of-lag.result
    c.requires.inside (c.combine_all.ensures.size ∙ l) c.load.ensures (search rules) (search rules)
    (λ j s. c.combine_all.ensures.each j (omega arith))

pub returns-clause-stored : goal.returns-clause-stored
returns-clause-stored g c =
    c.store.ensures.stored ∙ ap (with_stored (g.S.Storage.memory c.args.storage.now) c.args.to) (made_here g c)

pub returns-clause-made : goal.returns-clause-made
returns-clause-made g c = made_here g c
