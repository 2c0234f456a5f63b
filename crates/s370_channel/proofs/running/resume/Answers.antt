use Rattle.std.proofs.Common.{◌∙◌, refl}
use Rattle.s370_walk.specs.Walk.{live}
use Rattle.s370_walk.proofs.Reaching.{reach_from}
use Rattle.s370_channel.specs.Progress.{setting}
use Rattle.s370_channel.proofs.Halts.{halts_from}
use Rattle.s370_channel.proofs.Stuck.{next_continued}
use Rattle.s370_channel.proofs.running.resume.Goals as goal

pub returns-in-Ok-clause-reaches : goal.returns-in-Ok-clause-reaches
returns-in-Ok-clause-reaches g c =
    let m = g.S.Storage.memory c.args.storage.now in
    let e = next_continued (live (g.F.WordForm.written c.args.program.now))
    (setting g.D.Device.machine c.args.limits.now) c.args.spot.now c.args.word c.args.wanted m c.args.device.now
    c.requires.text c.requires.good c.requires.role in
    reach_from (e ∙ rw (c.position.ensures) refl) c.in-Ok.ensures.reaches

pub returns-in-Err-clause-halts : goal.returns-in-Err-clause-halts
returns-in-Err-clause-halts g c =
    let m = g.S.Storage.memory c.args.storage.now in
    let e = next_continued (live (g.F.WordForm.written c.args.program.now))
    (setting g.D.Device.machine c.args.limits.now) c.args.spot.now c.args.word c.args.wanted m c.args.device.now
    c.requires.text c.requires.good c.requires.role in
    halts_from (e ∙ rw (c.position.ensures) refl) c.in-Err.ensures.halts
