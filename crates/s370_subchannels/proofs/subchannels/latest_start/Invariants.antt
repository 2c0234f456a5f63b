use Rattle.std.proofs.Common.{◌≡◌, drop}
use Rattle.std.specs.Prelude.{max}
use Rattle.s370_subchannels.specs.Subchannels.{latest_start}
use Rattle.s370_subchannels.proofs.subchannels.latest_start.Given as goal

abbrev pub invariant-loop-s : goal.invariant-loop-s
invariant-loop-s l = latest_start l.list ≡ max l.latest (latest_start (drop l.s-index l.list))
