use Rattle.std.specs.Prelude.{Some}
use Rattle.std.proofs.Common.{rules, subst, ℕ, List, ◌≡◌}
use Rattle.s370_store.specs.Memory.{memory_of}
use Rattle.unit_record.specs.Reader.{reader_machine}
use Rattle.cp_spool.specs.Alike.{reader_of}
use Rattle.cp_spool.specs.Queues.{files_of}
use Rattle.cp_spool.specs.Reader.{part_new}
use Rattle.machine_channels.specs.Channels.{Brings, WalksLoading, load_times}
use Rattle.machine_devices.specs.declared.places.AttachedDevice.TheVariants as kinds
use Rattle.machine_devices.specs.Equipped.{Equipped, equipped}
use Rattle.machine_devices.specs.Lent.{DevicesParts, devices_on}
use Rattle.machine_devices.specs.Lines.{KindLoads}
use Rattle.machine_devices.proofs.devices.Devices.load_reader.Goals as goal

pub returns-in-Err-Memory : goal.returns-in-Err-Memory
returns-in-Err-Memory g c =
    let from : DevicesParts → Equipped =
    λ d. equipped c.args.machine.now (devices_on d c.args.queues.now) (g.C.Disks.disks c.args.channels.now)
    (g.S.Storage.memory c.args.storage.now) in
    record {
      ok = search rules;
      lacks = search rules;
      unchanged_without_frames = search rules;
      out = search rules;
      roomy = search rules;
      takes = search rules;
      memory = search rules;
      paged_in = subst (λ (d : DevicesParts).
          Brings (g.C.Channels.Came load_times) c.args.storage.now (KindLoads (Some kinds.Reader) (from d))
          c.load_fed.new.storage)
          c.self.view_is c.load_fed.ensures.loads.paged_in;
      ready = search rules;
      dropped = search rules;
      kept = search rules;
      others = search rules;
      other_users = search rules;
    }

pub returns-in-Ok-start_loaded : goal.returns-in-Ok-start_loaded
returns-in-Ok-start_loaded g c =
    let from : DevicesParts → Equipped =
    λ d. equipped c.args.machine.now (devices_on d c.args.queues.now) (g.C.Disks.disks c.args.channels.now)
    (g.S.Storage.memory c.args.storage.now) in
    let b = c.load_fed.ensures.loads.paged_in in
    let old = g.S.Storage.memory c.args.storage.now in
    let read = g.S.Storage.memory c.load_fed.new.storage in
    let same : read.keys ≡ old.keys = g.met.C.Channels.came_keys _ _ _ _ b.1 in
    let part = reader_of (files_of c.args.queues.now.users c.self.inside.user) part_new in
    let left = reader_of (files_of c.load_fed.new.queues.users c.self.inside.user) c.load_fed.new.reader in
    let Walks : List ℕ → Type 0 =
    λ keys. WalksLoading reader_machine (memory_of old.bytes old.keys) part c.in-Ok-load_fed.ending
    (memory_of read.bytes keys) left in
    let walk : Walks old.keys = subst Walks same c.in-Ok-load_fed.ensures.loads.walk in
    record {
      ok = record {
        well = c.in-Ok-start_loaded.well;
        loaded = record {
          ending = c.in-Ok-load_fed.ending;
          bytes = read.bytes;
          walk = search rules;
          reported = c.in-Ok-start_loaded.ensures.well;
          left = search rules;
        };
        rest = search rules;
        disks = search rules;
        says = c.loaded.ensures;
      };
      lacks = search rules;
      unchanged_without_frames = search rules;
      out = search rules;
      roomy = search rules;
      takes = search rules;
      memory = search rules;
      paged_in = subst (λ (d : DevicesParts).
          Brings (g.C.Channels.Came load_times) c.args.storage.now (KindLoads (Some kinds.Reader) (from d))
          c.start_loaded.new.storage)
          c.self.view_is (b.0, g.met.C.Channels.came_kept _ _ _ _ b.0 b.1 c.start_loaded.ensures.rest, b.2);
      ready = g.met.C.Channels.ready_kept _ _ c.start_loaded.ensures.rest c.load_fed.ensures.loads.ready;
      dropped = search rules;
      kept = search rules;
      others = search rules;
      other_users = search rules;
    }

pub returns-in-Err-start_loaded : goal.returns-in-Err-start_loaded
returns-in-Err-start_loaded g c =
    let from : DevicesParts → Equipped =
    λ d. equipped c.args.machine.now (devices_on d c.args.queues.now) (g.C.Disks.disks c.args.channels.now)
    (g.S.Storage.memory c.args.storage.now) in
    let b = c.load_fed.ensures.loads.paged_in in
    record {
      ok = search rules;
      lacks = search rules;
      unchanged_without_frames = search rules;
      out = search rules;
      roomy = search rules;
      takes = search rules;
      memory = search rules;
      paged_in = subst (λ (d : DevicesParts).
          Brings (g.C.Channels.Came load_times) c.args.storage.now (KindLoads (Some kinds.Reader) (from d))
          c.start_loaded.new.storage)
          c.self.view_is (b.0, g.met.C.Channels.came_kept _ _ _ _ b.0 b.1 c.start_loaded.ensures.rest, b.2);
      ready = g.met.C.Channels.ready_kept _ _ c.start_loaded.ensures.rest c.load_fed.ensures.loads.ready;
      dropped = search rules;
      kept = search rules;
      others = search rules;
      other_users = search rules;
    }
