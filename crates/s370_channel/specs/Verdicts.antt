-- What the code calls a word, as the walk calls it.
use Rattle.s370_channel.specs.declared.judging.Verdict as coded
use Rattle.s370_channel.specs.declared.judging.Verdict.TheVariants as verdicts
use Rattle.s370_walk.specs.Walk.{Verdict, Bad, Jump, Good}

-- a verdict of the code as one of the walk
abbrev pub verdict_of : coded.Verdict → Verdict
verdict_of verdicts.Bad = Bad
verdict_of verdicts.Jump = Jump
verdict_of verdicts.Good = Good
