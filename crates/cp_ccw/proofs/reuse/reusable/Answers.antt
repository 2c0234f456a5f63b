use Rattle.std.proofs.Common.{◌≡◌, ◌∙◌, subst, sym, true}
use Rattle.cp_ccw.specs.CachedProgram.{IsAtBase, KeptProgram}
use Rattle.cp_ccw.proofs.reuse.reusable.Goals as goal

pub returns-then-not-stands-clause-other : goal.returns-then-not-stands-clause-other
returns-then-not-stands-clause-other c = λ at.
    (let base = subst (λ (k : KeptProgram). IsAtBase k c.args.dat.now c.args.caw) (sym c.kept.view_is) at in
    let yes : c.stands.result ≡ true = c.stands.ensures.other (rw c.deref.ensures.value base.words) in
    sym c.if-not-stands.true ∙ yes)

pub returns-clause-other : goal.returns-clause-other
returns-clause-other c = λ at.
    (let base = subst (λ (k : KeptProgram). IsAtBase k c.args.dat.now c.args.caw) (sym c.kept.view_is) at in
    c.are_in_frames.ensures.other (rw c.deref-2.ensures.value base.frames))
