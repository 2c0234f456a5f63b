use Rattle.std.proofs.Common.{[]}
use Rattle.s370_walk.specs.Walk.{live}
use Rattle.s370_channel.specs.Guest.{guest_written}
use Rattle.s370_channel.specs.Loading.{loading_limits}
use Rattle.s370_channel.specs.Progress.{setting}
use Rattle.s370_channel.proofs.Ends.{then_ends}
use Rattle.s370_channel.proofs.Supplying.{each_before, loading_out}
use Rattle.s370_channel.proofs.supplied.load_supplied.Goals as goal

pub returns-in-Ok-clause-paged_in : goal.returns-in-Ok-clause-paged_in
returns-in-Ok-clause-paged_in g c = (
  [],
  g.met.S.UnitSupply.came_none _ _ 0 c.requires.between
      (g.met.S.Keyed.rest_kept _ _ c.in-Ok.ensures.rest),
  tt,
)

pub returns-in-Err-Memory-clause-paged_in : goal.returns-in-Err-Memory-clause-paged_in
returns-in-Err-Memory-clause-paged_in g c = (
  [],
  g.met.S.UnitSupply.came_none _ _ 0 c.requires.between
      (g.met.S.Keyed.rest_kept _ _ c.in-Err-Memory.ensures.rest),
  tt,
)

pub returns-in-Err-Absent-clause-reaches : goal.returns-in-Err-Absent-clause-reaches
returns-in-Err-Absent-clause-reaches g c =
    let h = setting g.D.Device.machine loading_limits in
    let halts = rw c.in-Err-Absent.field-0-is at c.in-Err-Absent.ensures.halts in
    then_ends (live guest_written) h _ _ c.run_supplied_from.result halts.comes c.run_supplied_from.ensures.reaches

pub returns-in-Err-Absent-clause-memory : goal.returns-in-Err-Absent-clause-memory
returns-in-Err-Absent-clause-memory g c =
    let m = g.S.Storage.memory c.args.storage.now in
    let halts = rw c.in-Err-Absent.field-0-is at c.in-Err-Absent.ensures.halts in
    loading_out guest_written g.D.Device.machine g.D.Device.needs_memory m c.args.device.now _
    c.run_supplied_from.result
    halts.comes c.run_supplied_from.ensures.memory

pub returns-in-Err-Absent-clause-paged_in : goal.returns-in-Err-Absent-clause-paged_in
returns-in-Err-Absent-clause-paged_in g c =
    let h = setting g.D.Device.machine loading_limits in
    let halts = rw c.in-Err-Absent.field-0-is at c.in-Err-Absent.ensures.halts in
    let t = c.run_supplied_from.ensures.paged_in in (
      t.0,
      g.met.S.UnitSupply.came_on _ _ _ [] t.0 (g.met.S.UnitSupply.came_none _ _ 0 c.requires.between
          (g.met.S.Keyed.rest_kept _ _ c.in-Err-Absent.ensures.rest)) t.1,
      each_before guest_written h _ _ t.0 halts.comes t.2,
    )
