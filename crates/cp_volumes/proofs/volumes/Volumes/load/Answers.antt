use Rattle.std.proofs.Common.{◌∙◌, ℕ, inr, arith}
use Rattle.s370_channel.specs.Guest.{guest_written}
use Rattle.s370_channel.specs.Loading.{loading, loading_limits}
use Rattle.s370_channel.specs.Progress.{setting}
use Rattle.s370_channel.specs.Supplied.{IsTouched}
use Rattle.cp_trial.specs.Trial.{touched_flags, tried_bytes}
use Rattle.ckd_volume.specs.Unit.{disk_machine}
use Rattle.cp_dat.specs.Copies.{is_wanted}
use Rattle.cp_dat.specs.Lent.{keeps_stored_same, lent_memory}
use Rattle.cp_dat.proofs.Copying.{came_fewer, came_nothing}
use Rattle.cp_minidisk.specs.Minidisk.{users_disk}
use Rattle.cp_volumes.specs.Shared.{volume_at}
use Rattle.cp_volumes.proofs.Confined.{confined_by, same_by, placements_by}
use Rattle.cp_volumes.proofs.volumes.Volumes.load.Goals as goal

pub returns-in-Err-clause-paged_in : goal.returns-in-Err-clause-paged_in
returns-in-Err-clause-paged_in c =
    let old = c.args.storage.now in
    let Touched : ℕ → Type 0 =
    IsTouched guest_written (setting disk_machine loading_limits)
    (loading disk_machine (lent_memory old)
    (users_disk (volume_at c.args.self.now c.args.disk.now.volume) c.args.disk.now.minidisk)) in
    came_nothing old old Touched 2 c.requires.between (keeps_stored_same old)

pub returns-in-Ok-load_mounted-clause-paged_in : goal.returns-in-Ok-load_mounted-clause-paged_in
returns-in-Ok-load_mounted-clause-paged_in c =
    let old = c.args.storage.now in
    let Touched : ℕ → Type 0 =
    IsTouched guest_written (setting disk_machine loading_limits)
    (loading disk_machine (lent_memory old)
    (users_disk (volume_at c.args.self.now c.args.disk.now.volume) c.args.disk.now.minidisk)) in
    came_fewer old c.load_mounted.new.storage (is_wanted (touched_flags c.in-Ok.tried)) Touched 2 2
    (λ page it. c.in-Ok.ensures.touches page it) (omega arith) c.load_mounted.ensures.paged_in

pub returns-clause-paged_in : goal.returns-clause-paged_in
returns-clause-paged_in c =
    let old = c.args.storage.now in
    let Touched : ℕ → Type 0 =
    IsTouched guest_written (setting disk_machine loading_limits)
    (loading disk_machine (lent_memory old)
    (users_disk (volume_at c.args.self.now c.args.disk.now.volume) c.args.disk.now.minidisk)) in
    came_fewer old c.load_mounted.new.storage (is_wanted (touched_flags c.in-Ok.tried)) Touched 2 2
    (λ page it. c.in-Ok.ensures.touches page it) (omega arith) c.load_mounted.ensures.paged_in

pub returns-in-Ok-load_mounted-clause-confined : goal.returns-in-Ok-load_mounted-clause-confined
returns-in-Ok-load_mounted-clause-confined c =
    confined_by c.args.self.now c.mount-mounted.new.self c.dismount.new.self c.args.disk.now c.mount-mounted.result
    c.load_mounted.new.mounted c.requires.seated c.mount-mounted.ensures.inside c.mount-mounted.ensures.mounted
    c.load_mounted.ensures.volume c.mount-mounted.ensures.moved_out c.dismount.ensures.volumes

pub returns-clause-confined : goal.returns-clause-confined
returns-clause-confined c =
    confined_by c.args.self.now c.mount-mounted.new.self c.dismount-in-Err-load_mounted.new.self c.args.disk.now
    c.mount-mounted.result c.load_mounted.new.mounted c.requires.seated c.mount-mounted.ensures.inside
    c.mount-mounted.ensures.mounted c.load_mounted.ensures.volume c.mount-mounted.ensures.moved_out
    c.dismount-in-Err-load_mounted.ensures.volumes

pub returns-in-Ok-load_mounted-clause-placements : goal.returns-in-Ok-load_mounted-clause-placements
returns-in-Ok-load_mounted-clause-placements c =
    placements_by c.args.self.now c.args.disk.now c.dismount.new.disk c.mount-mounted.result c.load_mounted.new.mounted
    c.requires.seated c.mount-mounted.ensures.mounted c.load_mounted.ensures.volume c.dismount.ensures.disk

pub returns-clause-placements : goal.returns-clause-placements
returns-clause-placements c =
    placements_by c.args.self.now c.args.disk.now c.dismount-in-Err-load_mounted.new.disk c.mount-mounted.result
    c.load_mounted.new.mounted c.requires.seated c.mount-mounted.ensures.mounted c.load_mounted.ensures.volume
    c.dismount-in-Err-load_mounted.ensures.disk

pub returns-clause-unchanged_on_error : goal.returns-clause-unchanged_on_error
returns-clause-unchanged_on_error c =
    same_by c.args.self.now c.mount-mounted.new.self c.dismount-in-Err-load_mounted.new.self c.args.disk.now
    c.mount-mounted.result c.load_mounted.new.mounted c.requires.seated c.mount-mounted.ensures.inside
    c.mount-mounted.ensures.mounted c.in-Err-load_mounted.ensures.unchanged_on_error c.mount-mounted.ensures.moved_out
    c.dismount-in-Err-load_mounted.ensures.volumes

pub returns-clause-roomy : goal.returns-clause-roomy
returns-clause-roomy c =
    λ refused. inr (record {
      bytes = tried_bytes c.args.storage.now c.in-Ok.tried;
      flags = touched_flags c.in-Ok.tried;
      tried = c.in-Ok.ensures;
      stand = c.load_mounted.ensures.roomy (c.in-Err-load_mounted.is ∙ refused);
    })
