use Rattle.std.specs.Prelude.{None}
use Rattle.std.proofs.Common.{subst}
use Rattle.s370_walk.specs.declared.parts.NextCcw.{NextCcw}
use Rattle.s370_walk.specs.Walk.{Fetching, Reaches, entered, live}
use Rattle.s370_channel.specs.Loading.{implied_word, loading_limits}
use Rattle.s370_channel.specs.Progress.{setting}
use Rattle.s370_channel.proofs.Ends.{reach_word, then_ends}
use Rattle.s370_channel.proofs.Halts.{loading_halts}
use Rattle.s370_channel.proofs.loading.load.Goals as goal

pub returns-in-At-clause-reaches : goal.returns-in-At-clause-reaches
returns-in-At-clause-reaches g c =
    let form = live (g.F.WordForm.written c.args.program.now) in
    let h = setting g.D.Device.machine loading_limits in
    let m = g.S.Storage.memory c.args.storage.now in
    let n = g.S.Storage.memory c.begin.new.storage in
    let P : NextCcw → Type 0 = λ s. Reaches form h (entered h s implied_word None m c.args.device.now)
    (Fetching c.in-At.spot n c.begin.new.device) in
    then_ends form h _ _ c.go_on.result (subst P c.first_spot.ensures
    (reach_word c.in-At.is c.in_ok-spot.ensures.reaches)) c.go_on.ensures.reaches

pub returns-in-At-clause-halts : goal.returns-in-At-clause-halts
returns-in-At-clause-halts g c =
    let form = live (g.F.WordForm.written c.args.program.now) in
    let h = setting g.D.Device.machine loading_limits in
    let m = g.S.Storage.memory c.args.storage.now in
    let n = g.S.Storage.memory c.begin.new.storage in
    let P : NextCcw → Type 0 = λ s. Reaches form h (entered h s implied_word None m c.args.device.now)
    (Fetching c.in-At.spot n c.begin.new.device) in
    loading_halts (g.F.WordForm.written c.args.program.now) g.D.Device.machine g.D.Device.needs_memory m
    c.args.device.now _ _ c.go_on.result (subst P c.first_spot.ensures
    (reach_word c.in-At.is c.in_ok-spot.ensures.reaches))
    (g.met.S.Storage.keeps_present _ _ c.in_ok-spot.ensures.rest) c.go_on.ensures.halts
