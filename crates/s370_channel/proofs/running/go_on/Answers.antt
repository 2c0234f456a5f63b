use Rattle.s370_channel.specs.Progress.{setting}
use Rattle.s370_channel.proofs.Halts.{match_halts_later, on_still}
use Rattle.s370_channel.proofs.running.go_on.Goals as goal

pub returns-in-Err-clause-halts : goal.returns-in-Err-clause-halts
returns-in-Err-clause-halts g c =
    let m = g.S.Storage.memory c.one_word.new.storage in
    match_halts_later (g.F.WordForm.written c.args.program.now)
    (setting g.D.Device.machine c.args.limits.now) g.D.Device.needs_memory m c.one_word.new.device c.in-Err.error
    c.words.invariant.reaches (g.met.S.Storage.keeps_present _ _ c.words.invariant.rest) c.in-Err.ensures.halts

pub returns-in-Err-clause-on : goal.returns-in-Err-clause-on
returns-in-Err-clause-on g c =
    on_still c.args.limits.now.commands c.args.from _ _ c.words.spot _ _ _ _ c.in-Err.error c.words.invariant.on
    c.in-Err.ensures.on
