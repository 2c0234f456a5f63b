use Rattle.std.proofs.Common.{ap, refl, rules, subst, sym, List, ◌∙◌}
use Rattle.s370_walk.specs.declared.parts.Ending.{Ending}
use Rattle.s370_store.specs.Memory.{Memory}
use Rattle.s370_subchannels.specs.Programs.{program_ended}
use Rattle.machine_panel.specs.Machine.{Parts}
use Rattle.machine_channels.specs.Channels.{Brings, serve_times}
use Rattle.machine_channels.specs.Disks.{DiskAt}
use Rattle.machine_devices.specs.declared.places.AttachedDevice.{AttachedDevice}
use Rattle.machine_devices.specs.declared.places.AttachedDevice.TheVariants as kinds
use Rattle.machine_devices.specs.Equipped.{Equipped, equipped}
use Rattle.machine_devices.specs.Lent.{DevicesParts, devices_on}
use Rattle.machine_devices.specs.Serve.{KindNeeds, RunsKind}
use Rattle.machine_devices.specs.Stopped.{StopsKind}
use Rattle.machine_devices.proofs.Beside.{beside_kept}
use Rattle.machine_devices.proofs.Printed.{program_left}
use Rattle.machine_devices.proofs.devices.Devices.run_kind.Goals.{in-Punch+in-Ok, in-Printer+in-Ok-run}
use Rattle.machine_devices.proofs.devices.Devices.run_kind.Goals.{in-Disk+in-Ok-run_disk}
use Rattle.machine_devices.proofs.devices.Devices.run_kind.Goals as goal

pub returns-in-Err-clause-ends : goal.returns-in-Err-clause-ends
returns-in-Err-clause-ends g c =
    let from : DevicesParts → Equipped =
    λ d. equipped c.args.machine.now (devices_on d c.args.queues.now) (g.C.Disks.disks c.args.channels.now)
    (g.S.Storage.memory c.args.storage.now) in
    let Stops : AttachedDevice → DevicesParts
    → Type 0 = λ kind d. StopsKind g.C.Channels.reads (g.S.Storage.present c.args.storage.now) kind c.args.program.start
    (from d) c.in-Err.error in
    record {
      whole = search rules;
      roomy = search rules;
      stopped = λ partly. subst (λ (kind : AttachedDevice). Stops kind c.args.self.now) (sym c.in-Punch.is)
          (subst (Stops kinds.Punch) c.self.view_is (c.in-Err.ensures.stopped partly));
      paged_in = search rules;
      ready = search rules;
      kept = search rules;
      kept_if_refused = search rules;
      others = search rules;
      other_users = beside_kept c.args.self.now _ c.args.queues.now (search rules);
    }

pub returns-in-Err-run-clause-ends : goal.returns-in-Err-run-clause-ends
returns-in-Err-run-clause-ends g c =
    let from : DevicesParts → Equipped =
    λ d. equipped c.args.machine.now (devices_on d c.args.queues.now) (g.C.Disks.disks c.args.channels.now)
    (g.S.Storage.memory c.args.storage.now) in
    let Stops : AttachedDevice → DevicesParts
    → Type 0 = λ kind d. StopsKind g.C.Channels.reads (g.S.Storage.present c.args.storage.now) kind c.args.program.start
    (from d) c.in-Err-run.error in
    let Needed : AttachedDevice → DevicesParts → Type 0 = λ kind d.
    Brings (g.C.Channels.Came serve_times) c.args.storage.now (KindNeeds g.C.Channels.holds kind c.args.program.start
    (from d))
    c.run-in-Printer.new.storage in
    record {
      whole = search rules;
      roomy = search rules;
      stopped = λ partly. subst (λ (kind : AttachedDevice). Stops kind c.args.self.now) (sym c.in-Printer.is)
          (subst (Stops kinds.Printer) c.self-in-Printer.view_is (c.in-Err-run.ensures.stopped partly));
      paged_in = subst (λ (kind : AttachedDevice). Needed kind c.args.self.now) (sym c.in-Printer.is)
          (subst (Needed kinds.Printer) c.self-in-Printer.view_is c.run-in-Printer.ensures.paged_in);
      ready = search rules;
      kept = search rules;
      kept_if_refused = search rules;
      others = search rules;
      other_users = beside_kept c.args.self.now _ c.args.queues.now (search rules);
    }

pub returns-clause-runs : goal.returns-clause-runs
returns-clause-runs g c =
    let old = g.S.Storage.memory c.args.storage.now in
    let from : DevicesParts → Equipped =
    λ d. equipped c.args.machine.now (devices_on d c.args.queues.now) (g.C.Disks.disks c.args.channels.now) old in
    let to : DevicesParts → List DiskAt → Memory
    → Equipped = λ d disks left. equipped c.end_program.new.self (devices_on d c.args.queues.now) disks left in
    let over : Ending → Parts =
    λ ending. record c.args.machine.now {
      subchannels = program_ended c.args.program.device c.args.program.start.key ending
          c.args.machine.now.subchannels;
    } in
    elim c.match-kind.branch [
      | in-Punch+in-Ok w ↦ (
          let parts : DevicesParts =
          record {
            places = w.self.inside.places;
            console = w.self.inside.console;
            reader = w.self.inside.reader;
            punch = w.self.inside.punch;
            printer = w.self.inside.printer;
            target = w.self.inside.target;
            user = w.self.inside.user;
          } in
          let same = g.met.C.Channels.came_keys _ _ _ _ w.run.ensures.paged_in.1 in
          let ended = c.end_program.ensures ∙ ap over w.ending-is in
          let ran : RunsKind g.C.Channels.reads kinds.Punch c.args.program.device c.args.program.start (from parts)
          (to (record parts { punch = w.run.new.device }) (g.C.Disks.disks w.run.new.self)
          (g.S.Storage.memory w.run.new.storage)) = (
            record {
              ending = w.in-Ok.ending;
              walk = w.in-Ok.ensures.walk;
              left = program_left c.args.machine.now c.end_program.new.self c.args.program.device
                  c.args.program.start.key
                  w.in-Ok.ending old (g.S.Storage.memory w.run.new.storage) ended same;
            },
            refl,
            w.run.ensures.disks,
          ) in
          rw (w.in-Punch.is, w.self-is, w.channels-is, w.storage-is)
          (subst (λ (d : DevicesParts).
          RunsKind g.C.Channels.reads kinds.Punch c.args.program.device c.args.program.start (from d)
          (to (record parts { punch = w.run.new.device }) (g.C.Disks.disks w.run.new.self)
          (g.S.Storage.memory w.run.new.storage))) w.self.view_is ran))
      | in-Printer+in-Ok-run w ↦ (
          let parts : DevicesParts =
          record {
            places = w.self-in-Printer.inside.places;
            console = w.self-in-Printer.inside.console;
            reader = w.self-in-Printer.inside.reader;
            punch = w.self-in-Printer.inside.punch;
            printer = w.self-in-Printer.inside.printer;
            target = w.self-in-Printer.inside.target;
            user = w.self-in-Printer.inside.user;
          } in
          let same = g.met.C.Channels.came_keys _ _ _ _ w.run-in-Printer.ensures.paged_in.1 in
          let ended = c.end_program.ensures ∙ ap over w.ending-is in
          let ran : RunsKind g.C.Channels.reads kinds.Printer c.args.program.device c.args.program.start (from parts)
          (to (record parts { printer = w.run-in-Printer.new.device }) (g.C.Disks.disks w.run-in-Printer.new.self)
          (g.S.Storage.memory w.run-in-Printer.new.storage)) = (
            record {
              ending = w.in-Ok-run.ending;
              walk = w.in-Ok-run.ensures.walk;
              left = program_left c.args.machine.now c.end_program.new.self c.args.program.device
                  c.args.program.start.key
                  w.in-Ok-run.ending old (g.S.Storage.memory w.run-in-Printer.new.storage) ended same;
            },
            refl,
            w.run-in-Printer.ensures.disks,
          ) in
          rw (w.in-Printer.is, w.self-is, w.channels-is, w.storage-is)
          (subst (λ (d : DevicesParts).
          RunsKind g.C.Channels.reads kinds.Printer c.args.program.device c.args.program.start (from d)
          (to (record parts { printer = w.run-in-Printer.new.device }) (g.C.Disks.disks w.run-in-Printer.new.self)
          (g.S.Storage.memory w.run-in-Printer.new.storage))) w.self-in-Printer.view_is ran))
      | in-Disk+in-Ok-run_disk w ↦ (
          let same = g.met.C.Channels.came_keys _ _ _ _ w.run_disk.ensures.paged_in.1 in
          let ended = c.end_program.ensures ∙ ap over w.ending-is in
          let ran : RunsKind g.C.Channels.reads (kinds.Disk w.in-Disk.index) c.args.program.device c.args.program.start
          (from c.args.self.now) (to c.args.self.now (g.C.Disks.disks w.run_disk.new.self)
          (g.S.Storage.memory w.run_disk.new.storage)) = record {
            ending = w.in-Ok-run_disk.ending;
            walk = w.in-Ok-run_disk.ensures.walk;
            left = program_left c.args.machine.now c.end_program.new.self c.args.program.device c.args.program.start.key
                w.in-Ok-run_disk.ending old (g.S.Storage.memory w.run_disk.new.storage) ended same;
            devices = refl;
          } in
          rw (w.in-Disk.is, w.self-is, w.channels-is, w.storage-is) ran)
    ]
