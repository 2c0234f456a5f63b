use Rattle.std.proofs.Common.{[], ◌∷◌, ◌++◌, ◌∙◌, refl}
use Rattle.s370_walk.specs.Walk.{live}
use Rattle.s370_walk.proofs.Reaching.{reach_here, reach_on}
use Rattle.s370_channel.specs.Guest.{guest_written}
use Rattle.s370_channel.specs.Halts.{stands}
use Rattle.s370_channel.specs.Progress.{setting}
use Rattle.s370_channel.specs.Supplied.{IsTouched}
use Rattle.s370_channel.proofs.Supplying.{all_touched, each_more, is_further, memory_on, reach_finished, reach_further}
use Rattle.s370_channel.proofs.supplied.run_supplied_from.Goals as goal

pub unit-init : goal.unit-init
unit-init g c =
    let h = setting g.D.Device.machine c.args.limits.now in
    let first = stands c.args.from (g.S.Storage.memory c.args.storage.now) c.args.device.now in
    record {
      reaches = reach_here (live guest_written) h first;
      ready = c.requires.ready;
      between = c.requires.between;
      ample = c.requires.ample;
      paged_in = (
        [],
        g.met.S.UnitSupply.came_none _ _ 0 c.requires.between
            (g.met.S.Keyed.rest_kept _ _ (g.met.S.Storage.keeps_same _)),
        tt,
      );
      keys = refl;
    }

pub returns-in-Err-clause-memory : goal.returns-in-Err-clause-memory
returns-in-Err-clause-memory g c =
    memory_on guest_written (setting g.D.Device.machine c.args.limits.now) g.D.Device.needs_memory _ _ _
    c.unit.invariant.reaches c.in-Err.ensures.memory

pub returns-in-Err-clause-paged_in : goal.returns-in-Err-clause-paged_in
returns-in-Err-clause-paged_in g c =
    let h = setting g.D.Device.machine c.args.limits.now in
    let first = stands c.args.from (g.S.Storage.memory c.args.storage.now) c.args.device.now in
    let s = c.unit.invariant.paged_in in
    let t = c.in-Err.ensures.paged_in in (
      s.0 ++ (t.0 ∷ []),
      g.met.S.UnitSupply.came_on _ _ _ s.0 (t.0 ∷ []) s.1 t.1,
      each_more (IsTouched guest_written h first) s.0 t.0 s.2
          (all_touched guest_written h first _ t.0 c.unit.invariant.reaches t.2),
    )

pub returns-in-Finished-clause-reaches : goal.returns-in-Finished-clause-reaches
returns-in-Finished-clause-reaches g c =
    let h = setting g.D.Device.machine c.args.limits.now in
    reach_on (live guest_written) h c.unit.invariant.reaches
    (reach_finished guest_written h _ _ _ _ c.in-Finished.ending c.in-Finished.is c.in-Ok.ensures.reaches)

pub returns-in-Finished-clause-paged_in : goal.returns-in-Finished-clause-paged_in
returns-in-Finished-clause-paged_in g c =
    let h = setting g.D.Device.machine c.args.limits.now in
    let first = stands c.args.from (g.S.Storage.memory c.args.storage.now) c.args.device.now in
    let s = c.unit.invariant.paged_in in
    let t = c.in-Ok.ensures.paged_in in (
      s.0 ++ (t.0 ∷ []),
      g.met.S.UnitSupply.came_on _ _ _ s.0 (t.0 ∷ []) s.1 t.1,
      each_more (IsTouched guest_written h first) s.0 t.0 s.2
          (all_touched guest_written h first _ t.0 c.unit.invariant.reaches t.2),
    )

pub unit-preserved : goal.unit-preserved
unit-preserved g c =
    let h = setting g.D.Device.machine c.args.limits.now in
    let first = stands c.args.from (g.S.Storage.memory c.args.storage.now) c.args.device.now in
    let before = c.unit.invariant in
    let s = before.paged_in in
    let t = c.in-Ok.ensures.paged_in in
    let further = is_further c.args.limits.now.commands c.unit.place _ c.in-Further.then c.in-Further.is
    c.in-Ok.ensures.farther in
    record {
      reaches = reach_on (live guest_written) h before.reaches
          (reach_further guest_written h _ _ _ _ c.in-Further.then c.in-Further.is c.in-Ok.ensures.reaches);
      ready = further.0;
      between = c.in-Ok.ensures.between;
      ample = c.in-Ok.ensures.ample;
      paged_in = (
        s.0 ++ (t.0 ∷ []),
        g.met.S.UnitSupply.came_on _ _ _ s.0 (t.0 ∷ []) s.1 t.1,
        each_more (IsTouched guest_written h first) s.0 t.0 s.2
            (all_touched guest_written h first _ t.0 before.reaches t.2),
      );
      keys = c.in-Ok.ensures.keys ∙ before.keys;
    }
