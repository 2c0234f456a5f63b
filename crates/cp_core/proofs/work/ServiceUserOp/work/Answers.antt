use Rattle.std.proofs.Common.{◌≡◌, refl, subst, sym, length, Bool, true, Err}
use Rattle.std.specs.Prelude.{IfOk, OnErr, OnOk}
use Rattle.s370_subchannels.specs.Programs.{program_of}
use Rattle.machine_devices.specs.Devices.{kind_at}
use Rattle.machine_devices.specs.Reuses.{MayHaveRun}
use Rattle.cp_resident.specs.Reuse.{ReuseValue}
use Rattle.cp_core.specs.Keeps.{ServeKeeps, Starts}
use Rattle.cp_core.specs.Lending.{kept_in}
use Rattle.cp_core.proofs.Reused.{starts}
use Rattle.cp_core.proofs.Systems.{on_err, on_ok}
use Rattle.s370_channel.specs.Reading.{as_reached}
use Rattle.cp_dat.specs.Lent.{lent_bytes, lent_memory, lent_pool, user_of}
use Rattle.machine_devices.specs.Equipped.{Equipped, equipped}
use Rattle.machine_devices.specs.Lent.{devices_on}
use Rattle.machine_devices.specs.Serve.{IsServedAt}
use Rattle.machine_devices.specs.Stopped.{ServeHadRoom}
use Rattle.machine_panel.specs.declared.line.LineError.TheVariants as errors
use Rattle.cp_volumes.specs.Shared.{DisksValue, KeepsOtherDisks, seen}
use Rattle.cp_resident.specs.GuestChannels.{HadRoom, PagedIn, disks_on, hung_on, reuse_of}
use Rattle.machine_channels.specs.Channels.{Brings, IsOutOfFrames, serve_times}
use Rattle.cp_core.specs.Wants.{DeviceNeeds}
use Rattle.cp_core.specs.Lending.{disks_of}
use Rattle.cp_core.proofs.Worked.{no_room, serve_work}
use Rattle.cp_core.proofs.work.ServiceUserOp.work.Goals as goal

pub returns-clause-kept : goal.returns-clause-kept
returns-clause-kept c = c.serve_supplied-served.ensures.paged_in.1.paged_in.kept

pub returns-clause-between : goal.returns-clause-between
returns-clause-between c = c.serve_supplied-served.ensures.ready

pub returns-clause-lent : goal.returns-clause-lent
returns-clause-lent c =
    let served = c.serve_supplied-served in
    let first : KeepsOtherDisks (disks_of c.args.lent.now) (hung_on served.new.channels) =
    subst (λ (d : DisksValue). KeepsOtherDisks d (hung_on served.new.channels)) c.take_from-channels.ensures.hung
    served.ensures.others in
    record {
      same_machine = refl;
      same_devices = refl;
      same_queues = refl;
      same_volumes = refl;
      same_minidisks = refl;
      same_reuse = refl;
      other_users = served.ensures.other_users;
      other_disks = rw (c.return_to.ensures.volumes, c.return_to.ensures.minidisks) first;
    }

pub returns-clause-does : goal.returns-clause-does
returns-clause-does c =
    let lent = c.args.lent.now in
    let served = c.serve_supplied-served in
    let r = served.result in
    let start : DisksValue = disks_of lent in
    let from : DisksValue → Equipped =
    λ d. equipped lent.machine.now (devices_on lent.devices.now lent.queues.now) (seen d)
    (lent_memory c.args.storage.now) in
    let after = equipped served.new.machine (devices_on served.new.devices served.new.queues)
    (disks_on served.new.channels) (lent_memory served.new.storage) in
    let Facts : DisksValue → Type 0 = λ d.
    IfOk r (λ done. IsServedAt as_reached c.args.self.now.device (from d) done after)
    × (r ≡ Err errors.FramesOut → after ≡ from d)
    × Brings (PagedIn serve_times) c.args.storage.now (DeviceNeeds c.args.self.now.device (from d)) served.new.storage
    × (r ≡ Err errors.FramesOut
    → IsOutOfFrames (length (lent_bytes c.args.storage.now)) (DeviceNeeds c.args.self.now.device (from d))
    (no_room served.new.storage (DeviceNeeds c.args.self.now.device (from d))))
    × (r ≡ Err errors.Memory
    → ServeHadRoom as_reached HadRoom c.args.storage.now served.new.storage c.args.self.now.device (from d)) in
    let facts : Facts start =
    subst Facts c.take_from-channels.ensures.hung (
      served.ensures.served,
      served.ensures.unchanged_without_frames,
      served.ensures.paged_in,
      served.ensures.frames,
      served.ensures.roomy,
    ) in
    rw (c.return_to.ensures.volumes, c.return_to.ensures.minidisks)
    (serve_work c.args.self.now.device (user_of c.args.storage.now) (from start) after c.args.storage.now
    served.new.storage r refl facts.2 facts.0 facts.1 facts.3 served.ensures.memory refl facts.4)

pub returns-clause-keeps : goal.returns-clause-keeps
returns-clause-keeps c =
    let lent = c.args.lent.now in
    let served = c.serve_supplied-served in
    let r = served.result in
    let d = c.args.storage.now in
    let device = c.args.self.now.device in
    let taken = c.take_from-channels.result in
    let left = served.new.channels in
    let new : ReuseValue = reuse_of left in
    let from : DisksValue → Equipped =
    λ ds. equipped lent.machine.now (devices_on lent.devices.now lent.queues.now) (seen ds) (lent_memory d) in
    let Ran : DisksValue → ReuseValue → Bool
    → Type 0 = λ ds k done. Starts k d new (kind_at (from ds).devices (from ds).disks device)
    (program_of device lent.machine.now.subchannels) done in
    let Facts : DisksValue → ReuseValue
    → Type 0 = λ ds k. OnOk r (Ran ds k true) × OnErr r ((done : Bool) × MayHaveRun (kind_at (from ds).devices (from
    ds).disks device) done × Ran ds k done) in
    let kind = kind_at (from (hung_on taken)).devices (from (hung_on taken)).disks device in
    let program = program_of device lent.machine.now.subchannels in
    let first : Facts (hung_on taken) (reuse_of taken) = (
      on_ok r _ _ (λ ran. starts taken left d kind program true ran) served.ensures.kept,
      on_err r _ _ (λ ran. (ran.0, ran.1, starts taken left d kind program ran.0 ran.2)) served.ensures.kept_if_refused,
    ) in
    let second : Facts (disks_of lent) (reuse_of taken) =
    subst (λ (ds : DisksValue). Facts ds (reuse_of taken)) c.take_from-channels.ensures.hung first in
    let third : Facts (disks_of lent) (kept_in lent) =
    subst (λ (k : ReuseValue). Facts (disks_of lent) k) c.take_from-channels.ensures.kept second in
    let keeps : ServeKeeps device (user_of d) (from (disks_of lent)) (lent_pool d).supply r (kept_in lent) new =
    record {
      storage = d;
      lent = record { whose = refl; memory = refl; frames = refl };
      kept = third.0;
      refused = third.1;
    } in
    subst (λ (k : ReuseValue).
    ServeKeeps device (user_of d) (from (disks_of lent)) (lent_pool d).supply r (kept_in lent) k)
    (sym c.return_to.ensures.kept) keeps
