use Rattle.std.proofs.Common.{◌≡◌, ℕ, List, [], ◌∷◌, ◌++◌, ◌∙◌, ap, subst, sym, false}
use Rattle.std.specs.Prelude.{Contains}
use Rattle.std.proofs.lemmas.Bool.{false≢true}
use Rattle.std.proofs.lemmas.List.{append-nil}
use Rattle.s370_store.specs.Memory.{Memory}
use Rattle.s370_intr.proofs.NinePages.{page_0}
use Rattle.s370_intr.proofs.Runs.{all_needed}
use Rattle.s370_intr.proofs.Brings.{distinct_more, no_more}
use Rattle.machine_panel.proofs.tick.bring_and_tick.Goals as goal

pub returns-in-Ok-clause-supply : goal.returns-in-Ok-clause-supply
returns-in-Ok-clause-supply g c =
    let s = c.loop-page.invariant.supply in
    let kept = subst (λ (pages : List ℕ). g.S.Supply.Brought c.args.storage.now pages c.tick.new.storage)
    (append-nil s.0) (g.met.S.Supply.brought_on _ _ _ s.0 [] s.1
    (g.met.S.Supply.brought_none _ _ (g.met.S.Keyed.rest_kept _ _ c.tick.ensures.rest))) in
    (s.0, kept, s.2, no_more 1 (λ page. page ≡ 0) s.0 page_0 s.3 s.2)

pub loop-page-preserved : goal.loop-page-preserved
loop-page-preserved g c =
    let s = c.loop-page.invariant.supply in
    let page = c.in-Err.page.0 in
    let kept = subst (λ (pages : List ℕ). g.S.Supply.Brought c.args.storage.now pages c.tick.new.storage)
    (append-nil s.0) (g.met.S.Supply.brought_on _ _ _ s.0 [] s.1
    (g.met.S.Supply.brought_none _ _ (g.met.S.Keyed.rest_kept _ _ c.tick.ensures.rest))) in
    let away : g.S.Storage.present c.loop-page.storage page ≡ false = c.in-Err.ensures.tick.2.away in
    let is_new : Contains s.0 page → ⊥ = λ at. false≢true (sym away ∙ g.met.S.UnitSupply.held _ _ s.0 page s.1 at) in
    record {
      same = rw c.bring.ensures.memory (c.in-Err.ensures.tick.0 ∙ c.loop-page.invariant.same);
      keys = ap (λ (m : Memory). m.keys) c.bring.ensures.memory ∙
          (g.met.S.Storage.keeps_keys _ _ c.tick.ensures.rest ∙ c.loop-page.invariant.keys);
      supply = (
        s.0 ++ (page ∷ []),
        g.met.S.Supply.brought_on _ _ _ s.0 (page ∷ []) kept c.in_ok-bring-in-Err.ensures.brought,
        all_needed _ s.0 (page ∷ []) s.2 (c.in-Err.ensures.tick.1, tt),
        distinct_more s.0 page s.3 is_new,
      );
    }

pub returns-in_err-bring-in-Err-clause-supply : goal.returns-in_err-bring-in-Err-clause-supply
returns-in_err-bring-in-Err-clause-supply g c =
    let s = c.loop-page.invariant.supply in
    let kept = subst (λ (pages : List ℕ). g.S.Supply.Brought c.args.storage.now pages c.tick.new.storage)
    (append-nil s.0) (g.met.S.Supply.brought_on _ _ _ s.0 [] s.1
    (g.met.S.Supply.brought_none _ _ (g.met.S.Keyed.rest_kept _ _ c.tick.ensures.rest))) in
    let left = subst (λ (pages : List ℕ). g.S.Supply.Brought c.args.storage.now pages c.bring.new.self) (append-nil s.0)
    (g.met.S.Supply.brought_on _ _ _ s.0 [] kept c.in_err-bring-in-Err.ensures.refused) in
    (s.0, left, s.2, no_more 1 (λ page. page ≡ 0) s.0 page_0 s.3 s.2)
