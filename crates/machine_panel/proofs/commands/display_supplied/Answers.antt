use Rattle.std.proofs.Common.{[], ◌∷◌, ◌++◌, ◌∙◌}
use Rattle.s370_store.specs.Access.{Touches}
use Rattle.s370_intr.proofs.Runs.{all_needed}
use Rattle.machine_panel.specs.DisplayStore.{shown}
use Rattle.machine_panel.proofs.commands.display_supplied.Goals as goal

pub loop-response-preserved : goal.loop-response-preserved
loop-response-preserved g c =
    let s = c.loop-response.invariant.supply in
    let page = c.in-Err.page.0 in
    record {
      still = c.bring.ensures.memory ∙ c.loop-response.invariant.still;
      supply = (
        s.0 ++ (page ∷ []),
        g.met.S.Supply.brought_on _ _ _ s.0 (page ∷ []) s.1 c.in_ok-bring-in-Err.ensures.brought,
        all_needed (Touches (shown c.args.place.now)) s.0 (page ∷ []) s.2 (c.in-Err.ensures.1, tt),
      );
    }

pub returns-in_err-bring-in-Err-clause-supply : goal.returns-in_err-bring-in-Err-clause-supply
returns-in_err-bring-in-Err-clause-supply g c =
    let s = c.loop-response.invariant.supply in (
      s.0 ++ [],
      g.met.S.Supply.brought_on _ _ _ s.0 [] s.1 c.in_err-bring-in-Err.ensures.refused,
      all_needed (Touches (shown c.args.place.now)) s.0 [] s.2 tt,
    )
