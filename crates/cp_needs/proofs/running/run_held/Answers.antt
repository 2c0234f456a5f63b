use Rattle.s370_channel.specs.Progress.{setting}
use Rattle.s370_walk.specs.Walk.{start_spot}
use Rattle.cp_needs.proofs.Enough.{never_stops}
use Rattle.cp_needs.proofs.running.run_held.Goals as goal

pub returns-clause-memory : goal.returns-clause-memory
returns-clause-memory g c =
    let m = g.S.Storage.memory c.args.storage.now in
    never_stops c.run.result (setting g.D.Device.machine c.args.limits.now) g.D.Device.needs_memory
    (g.S.Storage.present c.args.storage.now) (start_spot c.args.start) m c.args.device.now c.requires.still
    c.run.ensures.stuck
