use Rattle.std.proofs.Common.{subst}
use Rattle.s370_walk.specs.declared.parts.NextCcw.{NextCcw}
use Rattle.s370_walk.specs.Walk.{Fetching}
use Rattle.s370_channel.specs.Progress.{MatchStuck, setting}
use Rattle.s370_channel.proofs.Halts.{halts_told}
use Rattle.s370_channel.proofs.running.run.Goals as goal

pub returns-in-Err-clause-stuck : goal.returns-in-Err-clause-stuck
returns-in-Err-clause-stuck g c =
    let w = g.F.WordForm.written c.args.program.now in
    let h = setting g.D.Device.machine c.args.limits.now in
    let m = g.S.Storage.memory c.args.storage.now in
    let reported = halts_told w h g.D.Device.needs_memory _ _ _ _ c.in-Err.halt c.in-Err.ensures.halts in
    let P : NextCcw → Type 0 = λ s. MatchStuck w h g.D.Device.needs_memory (g.S.Storage.present c.args.storage.now)
    (Fetching s m c.args.device.now) c.error.result in
    subst P c.first_spot.ensures (rw c.error.ensures reported)
