use Rattle.std.proofs.Common.{rules, ◌≡◌}
use Rattle.machine_devices.specs.Equipped.{Equipped, equipped}
use Rattle.machine_devices.specs.Lent.{devices_on}
use Rattle.machine_devices.proofs.Beside.{beside_kept}
use Rattle.machine_devices.proofs.Loads.{disk_loads}
use Rattle.machine_devices.proofs.devices.Devices.load_disk.Goals as goal

pub returns-in-Ok-start_loaded : goal.returns-in-Ok-start_loaded
returns-in-Ok-start_loaded g c =
    let old = g.S.Storage.memory c.args.storage.now in
    let read = g.S.Storage.memory c.load_disk.new.storage in
    let before : Equipped = equipped c.args.machine.now (devices_on c.args.self.now c.args.queues.now)
    (g.C.Disks.disks c.args.channels.now) old in
    let after : Equipped = equipped c.start_loaded.new.machine (devices_on c.reset.new.self c.args.queues.now)
    (g.C.Disks.disks c.load_disk.new.self) (g.S.Storage.memory c.start_loaded.new.storage) in
    let b = c.load_disk.ensures.paged_in in
    let same : read.keys ≡ old.keys = g.met.C.Channels.came_keys _ _ _ _ b.1 in
    record {
      ok = disk_loads c.args.index c.args.device before after c.loaded.result c.in-Ok-start_loaded.well
          c.in-Ok-load_disk.ending read _ c.in-Ok-load_disk.ensures.walk same c.in-Ok-start_loaded.ensures.well
          (search rules) (search rules) c.loaded.ensures;
      lacks = search rules;
      unchanged_without_frames = search rules;
      out = search rules;
      roomy = search rules;
      takes = search rules;
      memory = search rules;
      paged_in = (b.0, g.met.C.Channels.came_kept _ _ _ _ b.0 b.1 c.start_loaded.ensures.rest, b.2);
      ready = g.met.C.Channels.ready_kept _ _ c.start_loaded.ensures.rest c.load_disk.ensures.ready;
      dropped = search rules;
      kept = search rules;
      others = search rules;
      other_users = beside_kept c.args.self.now _ c.args.queues.now (search rules);
    }
