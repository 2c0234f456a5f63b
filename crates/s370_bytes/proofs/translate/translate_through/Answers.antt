use Rattle.std.proofs.Common.{rules, arith, ◌≡◌, ◌∙◌, length, ap}
use Rattle.s370_store.specs.Memory.{with_stored}
use Rattle.s370_bytes.proofs.Places.{length-range}
use Rattle.s370_bytes.proofs.Translated.{made_is}
use Rattle.s370_bytes.proofs.translate.translate_through.Goals as goal

pub returns-clause-stored : goal.returns-clause-stored
returns-clause-stored g c =
    let before = (g.S.Storage.memory c.args.storage.now).bytes in
    let n = length c.args.bytes.now in
    let l : length c.load.new.into ≡ n = ap length c.load.ensures
    ∙ length-range before c.args.to n c.requires.inside in
    c.store.ensures.stored ∙ ap (with_stored (g.S.Storage.memory c.args.storage.now) c.args.to)
    (made_is before c.load.new.into c.load-2.new.into c.translate_all.new.bytes c.args.to c.args.from n c.requires.apart
    c.requires.inside (c.translate_all.ensures.size ∙ l) c.load.ensures (search rules) (λ j. search rules)
    (λ j s. c.translate_all.ensures.each j (omega arith)))
