use Rattle.std.proofs.Common.{rules, ◌∙◌, List, ℕ, ap}
use Rattle.s370_store.specs.Memory.{memory_of, with_stored}
use Rattle.s370_bytes.proofs.Fronts.{front_put, front_translated}
use Rattle.s370_bytes.proofs.translate.translate_short.Goals as goal

pub returns-clause-stored : goal.returns-clause-stored
returns-clause-stored g c =
    let m = g.S.Storage.memory c.args.storage.now in
    c.store.ensures.stored
    ∙ ap (λ (bytes : List ℕ). memory_of bytes m.keys) (front_put m.bytes c.load.new.into c.translate_front.new.bytes
    c.args.to c.args.count c.requires.few (search rules)
    (search rules) c.load.ensures c.translate_front.ensures.rest)
    ∙ ap (with_stored m c.args.to) (front_translated m.bytes c.load.new.into c.translate_front.new.bytes c.args.to
    c.args.from c.args.count
    c.requires.apart c.requires.inside c.requires.few
    (search rules) c.load.ensures c.translate_front.ensures.names (λ j s. c.translate_front.ensures.each j s))
