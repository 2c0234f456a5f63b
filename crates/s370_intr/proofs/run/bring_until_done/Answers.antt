use Rattle.std.proofs.Common.{◌≡◌, ℕ, List, [], ◌∷◌, ◌++◌, ◌∙◌, ap, length, subst, sym, false}
use Rattle.std.specs.Prelude.{Contains}
use Rattle.std.proofs.lemmas.Bool.{false≢true}
use Rattle.std.proofs.lemmas.List.{append-nil}
use Rattle.s370_store.specs.Memory.{Memory}
use Rattle.s370_rows.specs.State.{state_of}
use Rattle.s370_intr.specs.Units.{Core, NeedsAt, core_of}
use Rattle.s370_intr.proofs.Runs.{all_needed}
use Rattle.s370_intr.proofs.Brings.{distinct_more, nine_brought}
use Rattle.s370_intr.proofs.run.bring_until_done.Goals as goal

pub returns-in-Ok-clause-supply : goal.returns-in-Ok-clause-supply
returns-in-Ok-clause-supply g c =
    let s = c.loop-page.invariant.supply in
    let first = core_of (state_of c.args.cpu.now (g.S.Storage.memory c.args.storage.now)) c.args.pending.now
    c.args.subchannels.now in
    let kept = subst (λ (pages : List ℕ). g.S.Supply.Brought c.args.storage.now pages c.try_unit.new.storage)
    (append-nil s.0) (g.met.S.Supply.brought_on _ _ _ s.0 [] s.1
    (g.met.S.Supply.brought_none _ _ c.try_unit.ensures.rest)) in
    (s.0, kept, s.2, nine_brought c.args.said first s.0 s.3 s.2)

pub loop-page-preserved : goal.loop-page-preserved
loop-page-preserved g c =
    let s = c.loop-page.invariant.supply in
    let page = c.in-Err.page.0 in
    let first = core_of (state_of c.args.cpu.now (g.S.Storage.memory c.args.storage.now)) c.args.pending.now
    c.args.subchannels.now in
    let need : NeedsAt c.args.said first page = subst (λ (x : Core). NeedsAt c.args.said x page)
    c.loop-page.invariant.state c.in-Err.ensures.unit.2 in
    let kept = subst (λ (pages : List ℕ). g.S.Supply.Brought c.args.storage.now pages c.try_unit.new.storage)
    (append-nil s.0) (g.met.S.Supply.brought_on _ _ _ s.0 [] s.1
    (g.met.S.Supply.brought_none _ _ c.try_unit.ensures.rest)) in
    let away : g.S.Storage.present c.loop-page.storage page ≡ false = c.in-Err.ensures.unit.1.away in
    let is_new : Contains s.0 page → ⊥ = λ at. false≢true (sym away ∙ g.met.S.UnitSupply.held _ _ s.0 page s.1 at) in
    record {
      state = rw c.bring.ensures.memory (c.in-Err.ensures.unit.0 ∙ c.loop-page.invariant.state);
      supply = (
        s.0 ++ (page ∷ []),
        g.met.S.Supply.brought_on _ _ _ s.0 (page ∷ []) kept c.in_ok-bring-in-Err.ensures.brought,
        all_needed _ s.0 (page ∷ []) s.2 (need, tt),
        distinct_more s.0 page s.3 is_new,
      );
      size = ap (λ (m : Memory). length m.bytes) c.bring.ensures.memory
          ∙ g.met.S.Keyed.rest_size _ _ c.try_unit.ensures.rest ∙ c.loop-page.invariant.size;
    }

pub returns-in_err-bring-in-Err-clause-supply : goal.returns-in_err-bring-in-Err-clause-supply
returns-in_err-bring-in-Err-clause-supply g c =
    let s = c.loop-page.invariant.supply in
    let first = core_of (state_of c.args.cpu.now (g.S.Storage.memory c.args.storage.now)) c.args.pending.now
    c.args.subchannels.now in
    let kept = subst (λ (pages : List ℕ). g.S.Supply.Brought c.args.storage.now pages c.try_unit.new.storage)
    (append-nil s.0) (g.met.S.Supply.brought_on _ _ _ s.0 [] s.1
    (g.met.S.Supply.brought_none _ _ c.try_unit.ensures.rest)) in
    let left = subst (λ (pages : List ℕ). g.S.Supply.Brought c.args.storage.now pages c.bring.new.self) (append-nil s.0)
    (g.met.S.Supply.brought_on _ _ _ s.0 [] kept c.in_err-bring-in-Err.ensures.refused) in
    (s.0, left, s.2, nine_brought c.args.said first s.0 s.3 s.2)
