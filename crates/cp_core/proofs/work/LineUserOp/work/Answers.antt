use Rattle.std.proofs.Common.{◌≡◌, ap, refl, subst, sym, Err, Result, false}
use Rattle.std.specs.Prelude.{IfOk, OnErr, OnOk}
use Rattle.s370_store.specs.Memory.{Memory}
use Rattle.machine_devices.specs.Reuses.{LineForgets}
use Rattle.cp_resident.specs.Reuse.{ReuseValue}
use Rattle.cp_core.specs.Keeps.{IsForgotten, LineKeeps}
use Rattle.cp_core.specs.Lending.{disks_of, kept_in}
use Rattle.cp_core.proofs.Kept.{either}
use Rattle.cp_core.proofs.Reused.{forgets}
use Rattle.cp_core.proofs.Systems.{on_err, on_ok}
use Rattle.cp_dat.specs.Lent.{lent_memory, user_of}
use Rattle.machine_devices.specs.Equipped.{Equipped, equipped}
use Rattle.machine_devices.specs.Lent.{devices_on}
use Rattle.machine_devices.specs.Lines.{IsLine, requested}
use Rattle.machine_devices.specs.declared.line.LineOutcome.{LineOutcome}
use Rattle.machine_panel.specs.declared.line.LineError.{LineError}
use Rattle.machine_panel.specs.declared.line.LineError.TheVariants as errors
use Rattle.cp_volumes.specs.Shared.{DisksValue, KeepsOtherDisks, seen}
use Rattle.cp_resident.specs.GuestChannels.{disks_on, hung_on, reuse_of}
use Rattle.cp_core.specs.System.{world_among}
use Rattle.cp_core.specs.Typed.{IsLineLent}
use Rattle.machine_devices.specs.Comes.{LineMay, is_ipl}
use Rattle.cp_core.proofs.Worked.{loading_lent, plainly_lent, typed_work}
use Rattle.cp_core.proofs.work.LineUserOp.work.Goals as goal

pub returns : goal.returns
returns c =
    let lent = c.args.lent.now in
    let line = c.line-reported in
    let r = line.result in
    let typed = c.args.self.now.typed.now in
    let world = world_among c.users.result.now c.args.self.now.user c.as_slice.result.now in
    let storage = c.args.storage.now in
    let left = c.let_go.new.self in
    let taken = c.take_from-channels.result in
    let channels = line.new.channels in
    let new : ReuseValue = reuse_of channels in
    let from : DisksValue → Equipped =
    λ d. equipped lent.machine.now (devices_on lent.devices.now lent.queues.now) (seen d) (lent_memory storage) in
    let before : Equipped = from (hung_on taken) in
    let ended : Memory → Equipped =
    λ m. equipped line.new.machine (devices_on line.new.self line.new.queues) (disks_on channels) m in
    let ends = line.ensures.ends in
    let drops = line.ensures.drops in
    let brings = line.ensures.brings in
    let same : lent_memory line.new.storage ≡ lent_memory left = sym c.let_go.ensures.memory in
    let ok : IfOk r (λ t. IsLine world typed before t (ended (lent_memory left))) =
    subst (λ (m : Memory). IfOk r (λ t. IsLine world typed before t (ended m))) same ends.ok in
    let out : r ≡ Err errors.FramesOut → ended (lent_memory left) ≡ before =
    λ failed. subst (λ (m : Memory). ended m ≡ before) same (ends.unchanged_without_frames refl failed) in
    let kept : r ≡ Err errors.Memory → is_ipl (requested typed before) ≡ false → ended (lent_memory left) ≡ before =
    λ refused plain. subst (λ (m : Memory). ended m ≡ before) same
    (subst (λ (x : Result LineOutcome LineError). OnErr x (ended (lent_memory line.new.storage) ≡ before)) refused
    (ends.err plain)) in
    let stored : IsLineLent typed before storage left r =
    either (is_ipl (requested typed before)) (IsLineLent typed before storage left r)
    (λ ipl. (let paged_in = brings.paged_in ipl in
    loading_lent typed before storage line.new.storage left r ipl refl refl paged_in.1 c.let_go.ensures.let_go
    (brings.out ipl refl) paged_in.0 (brings.roomy ipl refl)))
    (λ plain. plainly_lent typed before storage line.new.storage left r c.requires.between c.let_go.ensures.let_go
    (brings.frames plain) brings.cleared brings.not_cleared (λ off. brings.supply off plain) plain) in
    let Facts : DisksValue → Type 0 = λ d.
    IsLineLent typed (from d) storage left r
    × IfOk r (λ t. IsLine world typed (from d) t (ended (lent_memory left)))
    × (r ≡ Err errors.FramesOut → ended (lent_memory left) ≡ from d)
    × (r ≡ Err errors.Memory → is_ipl (requested typed (from d)) ≡ false → ended (lent_memory left) ≡ from d)
    × (r ≡ Err errors.Memory → LineMay world typed (from d)) in
    let facts : Facts (disks_of lent) =
    subst Facts c.take_from-channels.ensures.hung (stored, ok, out, kept, ends.memory) in
    let Reuses : DisksValue → ReuseValue → Type 0 = λ ds k.
    OnOk r (LineForgets IsForgotten k new (requested typed (from ds)) (from ds))
    × (is_ipl (requested typed (from ds)) ≡ false → OnErr r (new ≡ k))
    × (r ≡ Err errors.FramesOut → new ≡ k) in
    let first : Reuses (hung_on taken) (reuse_of taken) = (
      on_ok r _ _ (λ h. forgets taken channels (requested typed before) before h) drops.dropped,
      λ plain. on_err r _ _ (λ h. ap reuse_of h) (drops.kept plain),
      λ failed. ap reuse_of (drops.kept_without_room refl failed),
    ) in
    let second : Reuses (disks_of lent) (reuse_of taken) =
    subst (λ (ds : DisksValue). Reuses ds (reuse_of taken)) c.take_from-channels.ensures.hung first in
    let third : Reuses (disks_of lent) (kept_in lent) =
    subst (λ (k : ReuseValue). Reuses (disks_of lent) k) c.take_from-channels.ensures.kept second in
    let keeps : LineKeeps typed (from (disks_of lent)) r (kept_in lent) new =
    record { forgets = third.0; stays = third.1; without_room = third.2 } in
    let others : KeepsOtherDisks (disks_of lent) (hung_on channels) =
    subst (λ (d : DisksValue). KeepsOtherDisks d (hung_on channels)) c.take_from-channels.ensures.hung drops.others in
    record {
      does = rw (
        ← c.users.ensures.users,
        ← c.as_slice.ensures.value,
        c.return_to.ensures.volumes,
        c.return_to.ensures.minidisks,
      )
          (typed_work world (user_of storage) typed (from (disks_of lent)) (ended (lent_memory left)) storage left r
          refl
          facts.0 facts.1 facts.2 facts.3 facts.4);
      keeps = subst (λ (k : ReuseValue). LineKeeps typed (from (disks_of lent)) r (kept_in lent) k)
          (sym c.return_to.ensures.kept) keeps;
      lent = record {
        same_machine = refl;
        same_devices = refl;
        same_queues = refl;
        same_volumes = refl;
        same_minidisks = refl;
        same_reuse = refl;
        other_users = line.ensures.other_users;
        other_disks = rw (c.return_to.ensures.volumes, c.return_to.ensures.minidisks) others;
      };
      kept = stored.kept;
      between = stored.between;
    }
