use Rattle.std.proofs.Common.{All, List, subst}
use Rattle.std.proofs.lemmas.List.{take_all}
use Rattle.std.proofs.lemmas.List.Elements.{All-more}
use Rattle.cp_needs.specs.declared.kept.WordAt.{WordAt}
use Rattle.cp_needs.specs.Kept.{IsAsItStood}
use Rattle.cp_needs.proofs.kept.stands.Goals as goal

pub loop-word-preserved : goal.loop-word-preserved
loop-word-preserved g c =
    All-more (IsAsItStood (g.S.Storage.memory c.args.storage.now).bytes (g.S.Storage.present c.args.storage.now))
    c.args.text.now c.loop-word.word-index _ c.loop-word-test.true c.loop-word.invariant
    (c.is_as_it_stood.ensures.as_it_stood c.if-not-is_as_it_stood.false)

pub returns-clause-as_it_stood : goal.returns-clause-as_it_stood
returns-clause-as_it_stood g c = λ yes.
    (let P = IsAsItStood (g.S.Storage.memory c.args.storage.now).bytes (g.S.Storage.present c.args.storage.now) in
    subst (λ (ws : List WordAt). All P ws) (take_all c.loop-word.word-index c.args.text.now c.loop-word-test.false)
    c.loop-word.invariant)
