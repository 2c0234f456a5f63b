use Rattle.std.specs.Prelude.{◌≡◌, length}
use Rattle.std.proofs.Common.{ap, refl, rules, subst, ℕ, Err}
use Rattle.s370_channel.specs.declared.running.ChannelError.TheVariants as errors
use Rattle.cp_spool.specs.Queues.{files_of}
use Rattle.machine_channels.specs.Channels.{NoRoom, WhereOut}
use Rattle.machine_devices.specs.declared.places.AttachedDevice.TheVariants as kinds
use Rattle.machine_devices.specs.Equipped.{Equipped, equipped}
use Rattle.machine_devices.specs.Lent.{DevicesParts, devices_on}
use Rattle.machine_devices.specs.Serve.{KindNeeds}
use Rattle.machine_devices.proofs.Fed.{out_as}
use Rattle.machine_devices.proofs.devices.Devices.run_reader.Goals as goal

pub returns-in-Err-clause-ends : goal.returns-in-Err-clause-ends
returns-in-Err-clause-ends g c =
    let old = g.S.Storage.memory c.args.storage.now in
    let parts : DevicesParts =
    record {
      places = c.self.inside.places;
      console = c.self.inside.console;
      reader = c.self.inside.reader;
      punch = c.self.inside.punch;
      printer = c.self.inside.printer;
      target = c.self.inside.target;
      user = c.self.inside.user;
    } in
    let from : DevicesParts → Equipped =
    λ d. equipped c.args.machine.now (devices_on d c.args.queues.now) (g.C.Disks.disks c.args.channels.now) old in
    let after = equipped c.args.machine.now
    (devices_on (record parts { reader = c.run_fed.new.reader }) c.run_fed.new.queues)
    (g.C.Disks.disks c.run_fed.new.channels) (g.S.Storage.memory c.run_fed.new.storage) in
    let Needs : DevicesParts → ℕ → Type 0 = λ d. KindNeeds g.C.Channels.holds kinds.Reader c.args.program.start (from
    d) in
    let Out : DevicesParts → Type 0 → Type 0 = λ d A. WhereOut (length old.bytes) (Needs d)
    (NoRoom g.C.Channels.IsOut g.C.Channels.IsFilled g.S.Storage.present c.run_fed.new.storage (Needs d)) A
    c.in-Err.error in
    let Same = (g.S.Storage.memory c.run_fed.new.storage ≡ old) × (c.run_fed.new.reader ≡ c.self.inside.reader)
    × (files_of c.run_fed.new.queues.users c.self.inside.user ≡ files_of c.args.queues.now.users c.self.inside.user) in
    let same : Same → after ≡ from parts = λ h. rw (h.0, h.1, h.2, c.run_fed.ensures.disks) refl in
    record {
      whole = λ whole. subst (λ (d : DevicesParts). Out d (after ≡ from d)) c.self.view_is
          (out_as g.C.Channels.IsOut g.C.Channels.IsFilled g.S.Storage.present c.run_fed.new.storage (Needs parts)
          c.in-Err.error (length old.bytes) Same (after ≡ from parts) same (c.in-Err.ensures.whole whole));
      roomy = λ whole refused. (let is : c.in-Err.error ≡ errors.Memory = (let r = refused in cc) in
          c.in-Err.ensures.runs.roomy whole (ap Err is));
      stopped = search rules;
      paged_in = search rules;
      ready = search rules;
      kept = search rules;
      kept_if_refused = search rules;
      others = search rules;
      other_users = search rules;
    }
