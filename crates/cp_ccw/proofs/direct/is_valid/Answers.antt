use Rattle.std.proofs.Common.{subst, sym}
use Rattle.cp_ccw.specs.CachedPages.{IsAsKnown, KnownProgram}
use Rattle.cp_ccw.proofs.Knowing.{stands_still}
use Rattle.cp_ccw.proofs.direct.is_valid.Goals as goal

pub returns-clause-still : goal.returns-clause-still
returns-clause-still c =
    λ yes. stands_still _ c.known.invariant c.args.dat.now c.args.caw
    (subst (λ (k : KnownProgram). IsAsKnown k c.args.dat.now c.args.caw) (sym c.known.view_is)
    (c.is_as_cached.ensures.as_cached yes))
