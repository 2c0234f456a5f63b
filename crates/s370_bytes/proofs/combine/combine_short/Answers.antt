use Rattle.std.proofs.Common.{rules, ◌≡◌, ◌∙◌, List, ℕ, take, ap}
use Rattle.s370_store.specs.Memory.{memory_of, with_stored}
use Rattle.s370_bytes.specs.Combine.{made_of, combined_condition}
use Rattle.s370_bytes.proofs.Fronts.{front_made, front_put}
use Rattle.s370_bytes.proofs.combine.combine_short.Given.{Over}
use Rattle.s370_bytes.proofs.combine.combine_short.Goals.{After-set_front_condition}
use Rattle.s370_bytes.proofs.combine.combine_short.Goals as goal

made_here : (g : Over) (c : After-set_front_condition g) → take c.args.count c.combine_front.new.target
    ≡ made_of c.args.operation (g.S.Storage.memory c.args.storage.now).bytes c.args.to c.args.from
    c.args.count
made_here g c =
    front_made c.args.operation (g.S.Storage.memory c.args.storage.now).bytes c.load.new.into c.load-2.new.into
    c.combine_front.new.target
    c.args.to c.args.from c.args.count c.requires.few c.requires.inside
    (search rules) c.load.ensures c.load-2.ensures c.requires.apart
    (λ j s. c.combine_front.ensures.each j s)

pub returns-clause-stored : goal.returns-clause-stored
returns-clause-stored g c =
    let m = g.S.Storage.memory c.args.storage.now in
    c.store.ensures.stored
    ∙ ap (λ (bytes : List ℕ). memory_of bytes m.keys) (front_put m.bytes c.load.new.into c.combine_front.new.target
    c.args.to c.args.count c.requires.few (search rules)
    (search rules) c.load.ensures c.combine_front.ensures.rest)
    ∙ ap (with_stored m c.args.to) (made_here g c)

pub returns-clause-condition : goal.returns-clause-condition
returns-clause-condition g c =
    c.set_front_condition.ensures ∙ ap (combined_condition c.args.operation c.args.cpu.now) (made_here g c)
