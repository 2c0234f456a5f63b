use Rattle.std.proofs.Common.{arith, ◌≡◌, ◌<◌, ◌*◌, ℕ, List, [], ◌∷◌, ◌++◌, ◌∙◌, ap, length, refl, subst, sym}
use Rattle.std.specs.Prelude.{Contains}
use Rattle.std.proofs.lemmas.Bool.{false≢true}
use Rattle.std.proofs.lemmas.List.{append-nil}
use Rattle.s370_store.specs.Memory.{Memory}
use Rattle.s370_walk.specs.Stuck.{IsAsked}
use Rattle.s370_channel.specs.Guest.{guest_written}
use Rattle.s370_channel.specs.Halts.{place_weight, stands}
use Rattle.s370_channel.specs.Progress.{setting}
use Rattle.s370_channel.proofs.Few.{distinct_more, nine_asked, such_more}
use Rattle.s370_channel.proofs.Supplying.{away_at, halts_still}
use Rattle.s370_channel.proofs.supplied.bring_and_advance.Goals as goal

pub page-init : goal.page-init
page-init g c = record {
  memory = refl;
  device = refl;
  supply = (
    [],
    g.met.S.Supply.brought_none _ _ (g.met.S.Keyed.rest_kept _ _ (g.met.S.Storage.keeps_same _)),
    record { all = tt; inside = tt },
    tt,
  );
}

pub returns-in-Ok-clause-supply : goal.returns-in-Ok-clause-supply
returns-in-Ok-clause-supply g c =
    let s = c.page.invariant.supply in
    let first = stands c.args.from (g.S.Storage.memory c.args.storage.now) c.args.device.now in
    let kept = subst (λ (pages : List ℕ). g.S.Supply.Brought c.args.storage.now pages c.go_from.new.storage)
    (append-nil s.0) (g.met.S.Supply.brought_on _ _ _ s.0 [] s.1
    (g.met.S.Supply.brought_none _ _ (g.met.S.Keyed.rest_kept _ _ c.go_from.ensures.rest))) in
    (s.0, kept, s.2, nine_asked g.D.Device.machine first s.0 s.3 s.2.all)

pub returns-in-Err-Memory-clause-supply : goal.returns-in-Err-Memory-clause-supply
returns-in-Err-Memory-clause-supply g c =
    let s = c.page.invariant.supply in
    let first = stands c.args.from (g.S.Storage.memory c.args.storage.now) c.args.device.now in
    let kept = subst (λ (pages : List ℕ). g.S.Supply.Brought c.args.storage.now pages c.go_from.new.storage)
    (append-nil s.0) (g.met.S.Supply.brought_on _ _ _ s.0 [] s.1
    (g.met.S.Supply.brought_none _ _ (g.met.S.Keyed.rest_kept _ _ c.go_from.ensures.rest))) in
    (s.0, kept, s.2, nine_asked g.D.Device.machine first s.0 s.3 s.2.all)

pub returns-in-Err-Memory-clause-size : goal.returns-in-Err-Memory-clause-size
returns-in-Err-Memory-clause-size g c = g.met.S.Storage.keeps_size _ _ c.go_from.ensures.rest
    ∙ ap (λ (m : Memory). length m.bytes) c.page.invariant.memory

pub returns-then-weight_of-clause-supply : goal.returns-then-weight_of-clause-supply
returns-then-weight_of-clause-supply g c =
    let s = c.page.invariant.supply in
    let first = stands c.args.from (g.S.Storage.memory c.args.storage.now) c.args.device.now in
    let kept = subst (λ (pages : List ℕ). g.S.Supply.Brought c.args.storage.now pages c.go_from.new.storage)
    (append-nil s.0) (g.met.S.Supply.brought_on _ _ _ s.0 [] s.1
    (g.met.S.Supply.brought_none _ _ (g.met.S.Keyed.rest_kept _ _ c.go_from.ensures.rest))) in
    (s.0, kept, s.2, nine_asked g.D.Device.machine first s.0 s.3 s.2.all)

pub page-preserved : goal.page-preserved
page-preserved g c =
    let s = c.page.invariant.supply in
    let page = c.in-Err-Absent.page.0 in
    let machine = g.D.Device.machine in
    let h = setting machine c.args.limits.now in
    let m = g.S.Storage.memory c.page.storage in
    let m0 = g.S.Storage.memory c.args.storage.now in
    let first = stands c.args.from m0 c.args.device.now in
    let kept = subst (λ (pages : List ℕ). g.S.Supply.Brought c.args.storage.now pages c.go_from.new.storage)
    (append-nil s.0) (g.met.S.Supply.brought_on _ _ _ s.0 [] s.1
    (g.met.S.Supply.brought_none _ _ (g.met.S.Keyed.rest_kept _ _ c.go_from.ensures.rest))) in
    let halts = rw c.in-Err-Absent.field-0-is at c.in-Err-Absent.ensures.halts in
    let on = rw c.in-Err-Absent.field-0-is at c.in-Err-Absent.ensures.on in
    let not_less : place_weight c.args.limits.now.commands c.in-Err-Absent.place < place_weight
    c.args.limits.now.commands c.args.from → ⊥ = λ less. absurd (omega (arith, less)) in
    let still = halts_still c.args.limits.now.commands c.args.from m m0 c.page.device c.args.device.now halts on
    not_less c.page.invariant.memory c.page.invariant.device in
    let away = away_at halts in
    let size : length (g.S.Storage.memory c.go_from.new.storage).bytes ≡ length
    (g.S.Storage.memory c.args.storage.now).bytes = ap (λ (x : Memory). length x.bytes) still.0 in
    let inside : page * 4096 < length (g.S.Storage.memory c.args.storage.now).bytes = subst
    (λ (n : ℕ). page * 4096 < n) size away.inside in
    let is_new : Contains s.0 page → ⊥ = λ at. false≢true (sym away.away
    ∙ g.met.S.UnitSupply.held _ _ s.0 page s.1 at) in
    record {
      memory = c.bring.ensures.memory ∙ still.0;
      device = still.1;
      supply = (
        s.0 ++ (page ∷ []),
        g.met.S.Supply.brought_on _ _ _ s.0 (page ∷ []) kept c.in-Ok-bring.ensures.brought,
        record {
          all = such_more (IsAsked guest_written machine first) s.0 page s.2.all still.2;
          inside = such_more (λ (p : ℕ). p * 4096 < length (g.S.Storage.memory c.args.storage.now).bytes) s.0 page
              s.2.inside inside;
        },
        distinct_more s.0 page s.3 is_new,
      );
    }

pub returns-in-Err-clause-supply : goal.returns-in-Err-clause-supply
returns-in-Err-clause-supply g c =
    let s = c.page.invariant.supply in
    let first = stands c.args.from (g.S.Storage.memory c.args.storage.now) c.args.device.now in
    let kept = subst (λ (pages : List ℕ). g.S.Supply.Brought c.args.storage.now pages c.go_from.new.storage)
    (append-nil s.0) (g.met.S.Supply.brought_on _ _ _ s.0 [] s.1
    (g.met.S.Supply.brought_none _ _ (g.met.S.Keyed.rest_kept _ _ c.go_from.ensures.rest))) in
    let left = subst (λ (pages : List ℕ). g.S.Supply.Brought c.args.storage.now pages c.bring.new.self) (append-nil s.0)
    (g.met.S.Supply.brought_on _ _ _ s.0 [] kept c.in-Err.ensures.refused) in
    (s.0, left, s.2, nine_asked g.D.Device.machine first s.0 s.3 s.2.all)
