use Rattle.std.specs.Prelude.{◌≡◌, Option, Result, Some, ⊤}
use Rattle.std.proofs.Common.{subst, true}
use Rattle.s370_channel.specs.declared.running.ChannelError.{ChannelError}
use Rattle.s370_channel.specs.declared.words.Caw.{Caw}
use Rattle.s370_subchannels.specs.Programs.{program_of}
use Rattle.machine_devices.specs.declared.places.AttachedDevice.{AttachedDevice}
use Rattle.machine_devices.specs.Borrowed.{ServeEnds, borrowed}
use Rattle.machine_devices.specs.Devices.{kind_in}
use Rattle.machine_devices.proofs.Served.{ends_err, ends_ok}
use Rattle.machine_devices.proofs.devices.Devices.serve.Goals as goal

pub returns-in-Ok-clause-ends : goal.returns-in-Ok-clause-ends
returns-in-Ok-clause-ends g c =
    let run = c.run_kind in
    let kind : Option AttachedDevice =
    kind_in c.args.self.now.places (g.C.Disks.disks c.args.channels.now) c.args.device in
    let program : Option Caw = program_of c.args.device c.args.machine.now.subchannels in
    let found : Some c.in-Some.kind ≡ kind = (let a = c.in-Some.is in let b = c.kind_at.ensures.kind in cc) in
    let begun : Some c.in-Some-program.start ≡ program =
    (let a = c.in-Some-program.is in let b = c.program.ensures in cc) in
    let old =
    borrowed c.args.self.now c.args.queues.now c.args.machine.now c.args.storage.now c.args.channels.now in
    let new = borrowed run.new.self run.new.queues run.new.machine run.new.storage run.new.channels in
    let Ends : Option AttachedDevice → Option Caw → Type 0 = λ k p.
    ServeEnds g.C.Channels g.C.Disks g.S.Storage k p old new run.result in
    let ends : Ends kind program = subst (λ (k : Option AttachedDevice). Ends k program) found
    (subst (λ (p : Option Caw). Ends (Some c.in-Some.kind) p) begun run.ensures.ends) in
    ends_ok g.C.Channels g.C.Disks g.S.Storage kind program old new tt true
    (subst (λ (r : Result ⊤ ChannelError).
    ServeEnds g.C.Channels g.C.Disks g.S.Storage kind program old new r) c.in-Ok.is ends)

pub returns-in-Err-clause-ends : goal.returns-in-Err-clause-ends
returns-in-Err-clause-ends g c =
    let run = c.run_kind in
    let kind : Option AttachedDevice =
    kind_in c.args.self.now.places (g.C.Disks.disks c.args.channels.now) c.args.device in
    let program : Option Caw = program_of c.args.device c.args.machine.now.subchannels in
    let found : Some c.in-Some.kind ≡ kind = (let a = c.in-Some.is in let b = c.kind_at.ensures.kind in cc) in
    let begun : Some c.in-Some-program.start ≡ program =
    (let a = c.in-Some-program.is in let b = c.program.ensures in cc) in
    let old =
    borrowed c.args.self.now c.args.queues.now c.args.machine.now c.args.storage.now c.args.channels.now in
    let new = borrowed run.new.self run.new.queues run.new.machine run.new.storage run.new.channels in
    let Ends : Option AttachedDevice → Option Caw → Type 0 = λ k p.
    ServeEnds g.C.Channels g.C.Disks g.S.Storage k p old new run.result in
    let ends : Ends kind program = subst (λ (k : Option AttachedDevice). Ends k program) found
    (subst (λ (p : Option Caw). Ends (Some c.in-Some.kind) p) begun run.ensures.ends) in
    ends_err g.C.Channels g.C.Disks g.S.Storage kind program old new c.in-Err.error
    (subst (λ (r : Result ⊤ ChannelError).
    ServeEnds g.C.Channels g.C.Disks g.S.Storage kind program old new r) c.in-Err.is ends)
