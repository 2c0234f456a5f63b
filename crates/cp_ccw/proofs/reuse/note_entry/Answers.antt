use Rattle.std.proofs.Common.{◌⊎◌, Contains, Option, refl, subst, sym, ℕ}
use Rattle.cp_ccw.specs.CachedProgram.{IsOf}
use Rattle.cp_ccw.proofs.Keeping.{push_only}
use Rattle.cp_ccw.proofs.reuse.note_entry.Goals as goal

pub returns-clause-only : goal.returns-clause-only
returns-clause-only c = λ h there.
    subst (λ (o : Option ℕ). Contains c.args.held.now.items h ⊎ IsOf o h) (sym c.in-Some.is)
    (push_only _ _ _ c.in-Some.address c.in_ok-push.ensures.items refl h there)
