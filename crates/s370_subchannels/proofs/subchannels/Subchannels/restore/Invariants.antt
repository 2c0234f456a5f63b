use Rattle.std.proofs.Common.{◌≡◌}
use Rattle.s370_subchannels.specs.Saved.{addresses}
use Rattle.s370_subchannels.proofs.subchannels.Subchannels.restore.Given as goal

abbrev pub invariant-loop : goal.invariant-loop
invariant-loop l = addresses l.self ≡ addresses l.fn.self
