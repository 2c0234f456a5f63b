use Rattle.std.specs.Prelude.{◌≡◌, length}
use Rattle.std.proofs.Common.{ap, inl, refl, rules, subst, ℕ, Err}
use Rattle.s370_channel.specs.declared.running.ChannelError.TheVariants as errors
use Rattle.machine_devices.specs.Devices.{DevicesValue}
use Rattle.cp_spool.specs.Queues.{files_of}
use Rattle.machine_devices.specs.Lent.{DevicesParts, devices_on, devices_with}
use Rattle.machine_channels.specs.Channels.{Brings, NoRoom, WhereOut, serve_times}
use Rattle.machine_devices.specs.declared.places.AttachedDevice.TheVariants as kinds
use Rattle.machine_devices.specs.Equipped.{Equipped, equipped}
use Rattle.machine_devices.specs.Serve.{KindNeeds, RunsConsole}
use Rattle.machine_devices.specs.Stopped.{KindHadRoom, StopsConsole}
use Rattle.unit_record.specs.Console.{ConsoleState}
use Rattle.machine_devices.proofs.Beside.{beside_kept}
use Rattle.machine_devices.proofs.Fed.{out_as}
use Rattle.machine_devices.proofs.Printed.{console_on}
use Rattle.machine_devices.proofs.devices.Devices.run_console.Goals as goal

with_console : DevicesValue → ConsoleState → DevicesValue
with_console d console = record d { console = console }

pub returns-clause-runs : goal.returns-clause-runs
unfolding with_console
returns-clause-runs g c =
    let memory = g.S.Storage.memory c.args.storage.now in
    let left = g.S.Storage.memory c.run.new.storage in
    let disks = g.C.Disks.disks c.args.channels.now in
    let disks_left = g.C.Disks.disks c.run.new.self in
    let files = files_of c.args.queues.now.users c.self.inside.user in
    let parts : DevicesParts =
    record {
      places = c.self.inside.places;
      console = c.self.inside.console;
      reader = c.self.inside.reader;
      punch = c.self.inside.punch;
      printer = c.self.inside.printer;
      target = c.self.inside.target;
      user = c.self.inside.user;
    } in
    let old : DevicesValue = devices_with parts files in
    let new : DevicesValue = with_console old c.forget_lines.new.self in
    subst (λ (d : DevicesParts).
    RunsConsole g.C.Channels.reads c.args.program.device c.args.program.start
    (equipped c.args.machine.now (devices_on d c.args.queues.now) disks memory)
    (equipped c.print_written.new.machine new disks_left left)) c.self.view_is
    (record {
      ending = c.in-Ok.ending;
      console = c.run.new.device;
      walk = c.in-Ok.ensures.walk;
      left = console_on c.args.machine.now c.set_attention.new.self c.end_program.new.self c.print_written.new.machine
          c.args.program.device _ c.in-Ok.ending c.attention.result c.run.new.device _ memory left c.attention.ensures
          c.set_attention.ensures c.end_program.ensures c.in-Ok-print_written.ensures.printed
          (g.met.C.Channels.came_keys _ _ _ _ c.run.ensures.paged_in.1);
      devices = ap (λ (console : ConsoleState). with_console old console) c.forget_lines.ensures;
      disks = c.run.ensures.disks;
    })

pub returns-in-Err-clause-ends : goal.returns-in-Err-clause-ends
returns-in-Err-clause-ends g c =
    let old = g.S.Storage.memory c.args.storage.now in
    let parts : DevicesParts =
    record {
      places = c.self.inside.places;
      console = c.self.inside.console;
      reader = c.self.inside.reader;
      punch = c.self.inside.punch;
      printer = c.self.inside.printer;
      target = c.self.inside.target;
      user = c.self.inside.user;
    } in
    let from : DevicesParts → Equipped =
    λ d. equipped c.args.machine.now (devices_on d c.args.queues.now) (g.C.Disks.disks c.args.channels.now) old in
    let after = equipped c.args.machine.now (devices_on (record parts { console = c.run.new.device }) c.args.queues.now)
    (g.C.Disks.disks c.run.new.self) (g.S.Storage.memory c.run.new.storage) in
    let Needs : DevicesParts → ℕ → Type 0 = λ d. KindNeeds g.C.Channels.holds kinds.Console c.args.program.start (from
    d) in
    let Out : DevicesParts → Type 0
    → Type 0 = λ d A. WhereOut (length old.bytes) (Needs d)
    (NoRoom g.C.Channels.IsOut g.C.Channels.IsFilled g.S.Storage.present c.run.new.storage (Needs d)) A
    c.in-Err.error in
    let Same = (g.S.Storage.memory c.run.new.storage ≡ old) × (c.run.new.device ≡ c.self.inside.console) in
    let same : Same → after ≡ from parts = λ h. rw (h.0, h.1, c.run.ensures.disks) refl in
    record {
      whole = λ whole. subst (λ (d : DevicesParts). Out d (after ≡ from d)) c.self.view_is
          (out_as g.C.Channels.IsOut g.C.Channels.IsFilled g.S.Storage.present c.run.new.storage (Needs parts)
          c.in-Err.error (length old.bytes) Same (after ≡ from parts) same (c.in-Err.ensures.whole whole));
      roomy = λ whole refused. (let refusal : c.in-Err.error ≡ errors.Memory = (let r = refused in cc) in
          subst (λ (d : DevicesParts).
          KindHadRoom g.C.Channels.reads g.C.Channels.HadRoom c.args.storage.now c.run.new.storage kinds.Console
          c.args.program.start (from d)) c.self.view_is (inl (c.in-Err.ensures.roomy whole (ap Err refusal))));
      stopped = λ partly. subst (λ (d : DevicesParts).
          StopsConsole g.C.Channels.reads (g.S.Storage.present c.args.storage.now) c.args.program.start (from d)
          c.in-Err.error) c.self.view_is (inl (c.in-Err.ensures.stopped partly));
      paged_in = subst (λ (d : DevicesParts).
          Brings (g.C.Channels.Came serve_times) c.args.storage.now (Needs d) c.run.new.storage) c.self.view_is
          c.run.ensures.paged_in;
      ready = search rules;
      kept = search rules;
      kept_if_refused = search rules;
      others = search rules;
      other_users = beside_kept c.args.self.now _ c.args.queues.now (search rules);
    }
