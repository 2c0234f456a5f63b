use Rattle.std.proofs.Common.{◌≡◌, drop}
use Rattle.std.specs.Prelude.{max}
use Rattle.s370_subchannels.specs.Subchannels.{latest_start}
use Rattle.sessions.proofs.starts.latest_start.Given as goal

abbrev pub invariant-loop-d : goal.invariant-loop-d
invariant-loop-d l = latest_start l.list ≡ max l.latest (latest_start (drop l.d-index l.list))
