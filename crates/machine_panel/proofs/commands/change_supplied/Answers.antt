use Rattle.std.proofs.Common.{[], ◌∷◌, ◌++◌, ◌∙◌}
use Rattle.s370_store.specs.Access.{Touches}
use Rattle.s370_intr.proofs.Runs.{all_needed}
use Rattle.machine_panel.specs.DisplayStore.{touched}
use Rattle.machine_panel.proofs.commands.change_supplied.Goals as goal

pub returns-in-Ok-clause-supply : goal.returns-in-Ok-clause-supply
returns-in-Ok-clause-supply g c =
    let s = c.loop-response.invariant.supply in (
      s.0 ++ [],
      g.met.S.Supply.brought_on _ _ _ s.0 [] s.1
          (g.met.S.Supply.brought_none _ _ (g.met.S.Keyed.rest_kept _ _ c.change.ensures.rest)),
      all_needed (Touches (touched c.args.change_of.now)) s.0 [] s.2 tt,
    )

pub loop-response-preserved : goal.loop-response-preserved
loop-response-preserved g c =
    let s = c.loop-response.invariant.supply in
    let page = c.in-Err.page.0 in
    record {
      state = rw c.bring.ensures.memory (c.in-Err.ensures.change.0 ∙ c.loop-response.invariant.state);
      supply = (
        (s.0 ++ []) ++ (page ∷ []),
        g.met.S.Supply.brought_on _ _ _ (s.0 ++ []) (page ∷ [])
            (g.met.S.Supply.brought_on _ _ _ s.0 [] s.1
            (g.met.S.Supply.brought_none _ _ (g.met.S.Keyed.rest_kept _ _ c.change.ensures.rest)))
            c.in_ok-bring-in-Err.ensures.brought,
        all_needed (Touches (touched c.args.change_of.now)) (s.0 ++ []) (page ∷ [])
            (all_needed (Touches (touched c.args.change_of.now)) s.0 [] s.2 tt) (c.in-Err.ensures.change.2, tt),
      );
    }

pub returns-in_err-bring-in-Err-clause-supply : goal.returns-in_err-bring-in-Err-clause-supply
returns-in_err-bring-in-Err-clause-supply g c =
    let s = c.loop-response.invariant.supply in (
      (s.0 ++ []) ++ [],
      g.met.S.Supply.brought_on _ _ _ (s.0 ++ []) []
          (g.met.S.Supply.brought_on _ _ _ s.0 [] s.1
          (g.met.S.Supply.brought_none _ _ (g.met.S.Keyed.rest_kept _ _ c.change.ensures.rest)))
          c.in_err-bring-in-Err.ensures.refused,
      all_needed (Touches (touched c.args.change_of.now)) (s.0 ++ []) []
          (all_needed (Touches (touched c.args.change_of.now)) s.0 [] s.2 tt) tt,
    )
