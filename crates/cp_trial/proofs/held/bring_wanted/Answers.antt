use Rattle.std.proofs.Common.{◌∙◌, [], ◌∷◌, ◌++◌}
use Rattle.cp_dat.specs.Bringing.{supplied_on}
use Rattle.cp_dat.specs.Copies.{is_wanted}
use Rattle.cp_trial.proofs.Holds.{such_on}
use Rattle.cp_trial.proofs.held.bring_wanted.Goals as goal

pub loop-page-preserved : goal.loop-page-preserved
loop-page-preserved c =
    let s = c.loop-page.invariant.supply in
    let page = c.in-Some.page.0 in
    record {
      memory = c.bring.ensures.memory ∙ c.loop-page.invariant.memory;
      supply = (
        s.0 ++ (page ∷ []),
        supplied_on _ _ _ s.0 (page ∷ []) s.1 c.in_ok-bring-in-Some.ensures.brought,
        such_on (is_wanted c.args.wanted.now) s.0 (page ∷ []) s.2 (c.in-Some.ensures.wanted, tt),
      );
    }
