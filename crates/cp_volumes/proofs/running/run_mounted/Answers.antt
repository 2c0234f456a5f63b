use Rattle.std.proofs.Common.{refl}
use Rattle.ckd_volume.specs.Unit.{disk_machine}
use Rattle.cp_dat.specs.Lent.{lent_memory}
use Rattle.cp_minidisk.specs.Part.{disk_seen, part_machine}
use Rattle.cp_trial.specs.Trial.{touched_flags, tried_bytes}
use Rattle.channel_trial.proofs.Trying.{tried_back}
use Rattle.cp_volumes.proofs.Parts.{keeps_ok, part_viewed, walks_ok}
use Rattle.cp_volumes.proofs.running.run_mounted.Goals as goal

pub run_tried-requires-clause-tried : goal.run_tried-requires-clause-tried
run_tried-requires-clause-tried c =
    let m = lent_memory c.args.storage.now in
    tried_back part_machine disk_machine disk_seen c.args.start m c.args.mounted.now (tried_bytes c.args.storage.now
    c.args.tried.now)
    (touched_flags c.args.tried.now) part_viewed c.requires.tried

pub returns-clause-walk : goal.returns-clause-walk
returns-clause-walk c =
    let m = lent_memory c.args.storage.now in
    let n = lent_memory c.run_tried.new.storage in
    walks_ok c.args.start m n c.args.mounted.now c.run_tried.new.device c.run_tried.result c.run_tried.ensures.walk

pub returns-clause-volume : goal.returns-clause-volume
returns-clause-volume c =
    let m = lent_memory c.args.storage.now in
    let n = lent_memory c.run_tried.new.storage in
    keeps_ok c.args.start m n c.args.mounted.now c.run_tried.new.device c.run_tried.result c.run_tried.ensures.walk
    (c.run_tried.ensures.spared (λ d o. refl)) (λ out. (c.run_tried.ensures.unchanged_without_frames out).1)
