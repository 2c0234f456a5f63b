use Rattle.std.proofs.Common.{◌≡◌, ◌++◌, ℕ, List, length}
use Rattle.std.specs.Option.{option_map}
use Rattle.logon_desk_cli.specs.Read.{pairs_of}
use Rattle.logon_desk_cli.proofs.frame.pairs_of.Given as goal

abbrev pub invariant-loop-rest : goal.invariant-loop-rest
invariant-loop-rest l = pairs_of l.digits ≡ option_map (λ (more : List ℕ). l.bytes ++ more) (pairs_of l.rest)

abbrev pub decreases-loop-rest : goal.decreases-loop-rest
decreases-loop-rest l = length l.rest
