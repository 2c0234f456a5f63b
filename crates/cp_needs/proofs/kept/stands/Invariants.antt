use Rattle.std.proofs.Common.{All, take}
use Rattle.cp_needs.specs.Kept.{IsAsItStood}
use Rattle.cp_needs.proofs.kept.stands.Given as goal

abbrev pub invariant-loop-word : goal.invariant-loop-word
invariant-loop-word g l =
    All (IsAsItStood (g.S.Storage.memory l.storage).bytes (g.S.Storage.present l.storage)) (take l.word-index l.text)
