use Rattle.std.proofs.Common.{refl}
use Rattle.ckd_volume.specs.Unit.{disk_machine}
use Rattle.cp_dat.specs.Lent.{lent_memory}
use Rattle.cp_minidisk.specs.Part.{disk_seen, part_machine}
use Rattle.cp_trial.specs.Trial.{touched_flags, tried_bytes}
use Rattle.channel_trial.proofs.Trying.{loaded_back}
use Rattle.cp_volumes.proofs.Parts.{load_keeps_ok, part_viewed, loads_ok}
use Rattle.cp_volumes.proofs.running.load_mounted.Goals as goal

pub load_tried-requires-clause-tried : goal.load_tried-requires-clause-tried
load_tried-requires-clause-tried c =
    let m = lent_memory c.args.storage.now in
    loaded_back part_machine disk_machine disk_seen m c.args.mounted.now (tried_bytes c.args.storage.now
    c.args.tried.now)
    (touched_flags c.args.tried.now) part_viewed c.requires.tried

pub returns-clause-walk : goal.returns-clause-walk
returns-clause-walk c =
    let m = lent_memory c.args.storage.now in
    let n = lent_memory c.load_tried.new.storage in
    loads_ok m n c.args.mounted.now c.load_tried.new.device c.load_tried.result c.load_tried.ensures.walk

pub returns-clause-volume : goal.returns-clause-volume
returns-clause-volume c =
    let m = lent_memory c.args.storage.now in
    let n = lent_memory c.load_tried.new.storage in
    load_keeps_ok m n c.args.mounted.now c.load_tried.new.device c.load_tried.result c.load_tried.ensures.walk
    (c.load_tried.ensures.spared (λ d o. refl)) (λ out. (c.load_tried.ensures.unchanged_without_frames out).1)
