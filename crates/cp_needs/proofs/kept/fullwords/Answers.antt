use Rattle.std.specs.Prelude.{slice_index}
use Rattle.std.proofs.lemmas.Grind.{get_or_default_zero}
use Rattle.cp_needs.proofs.Standing.{all_found, one_more, only_found, only_more}
use Rattle.cp_needs.proofs.kept.fullwords.Goals as goal

pub add-requires : goal.add-requires
add-requires g c = λ inside.
    (let numbers = c.args.numbers.now in
    let k = c.loop-number.number-index in
    c.requires.here (slice_index numbers k)
    (k, c.loop-number-test.true, get_or_default_zero numbers k (slice_index numbers k) c.loop-number-test.true)
    inside)

pub loop-number-preserved : goal.loop-number-preserved
loop-number-preserved g c = record {
  all = one_more (g.S.Storage.memory c.args.storage.now).bytes (g.S.Storage.present c.args.storage.now)
      c.args.numbers.now c.loop-number.number-index c.loop-number.text.items c.add.new.text.items
      c.loop-number.invariant.all c.in_ok-add.ensures;
  only = only_more (g.S.Storage.memory c.args.storage.now).bytes (g.S.Storage.present c.args.storage.now)
      c.args.numbers.now c.loop-number.number-index c.loop-number.text.items c.add.new.text.items
      c.loop-number.invariant.only c.in_ok-add.ensures;
  stands = c.in_ok-add.ensures.stand c.loop-number.invariant.stands;
}

pub returns-clause-all : goal.returns-clause-all
returns-clause-all g c =
    all_found (g.S.Storage.memory c.args.storage.now).bytes c.args.numbers.now c.loop-number.number-index
    c.loop-number.text.items c.loop-number-test.false c.loop-number.invariant.all

pub returns-clause-only : goal.returns-clause-only
returns-clause-only g c =
    only_found (g.S.Storage.memory c.args.storage.now).bytes c.args.numbers.now c.loop-number.number-index
    c.loop-number.text.items c.loop-number.auto.number-index-end c.loop-number.invariant.only
