use Rattle.std.proofs.Common.{◌<◌, ◌*◌, ℕ, ap, length, subst, sym}
use Rattle.s370_store.specs.Memory.{Memory}
use Rattle.s370_channel.specs.declared.supplied.Shortage.TheVariants as lacks
use Rattle.s370_channel.specs.Guest.{guest_written}
use Rattle.s370_channel.specs.Halts.{stands}
use Rattle.s370_channel.specs.Progress.{setting}
use Rattle.s370_channel.specs.Supplied.{IsLack}
use Rattle.s370_channel.proofs.Few.{listed}
use Rattle.s370_channel.proofs.Supplying.{lack_is}
use Rattle.s370_channel.proofs.supplied.advance_supplied.Goals as goal

pub unreachable-requires : goal.unreachable-requires
unreachable-requires g c =
    let step = c.bring_and_advance-gone.ensures in
    let s = step.supply in
    let h = setting g.D.Device.machine c.args.limits.now in
    let first = stands c.args.from (g.S.Storage.memory c.args.storage.now) c.args.device.now in
    let lack = lack_is (IsLack guest_written h g.D.Device.needs_memory first
    (length (g.S.Storage.memory c.bring_and_advance-gone.new.storage).bytes)
    (g.S.Supply.IsShort c.bring_and_advance-gone.new.storage)) c.bring_and_advance-gone.result c.in-Err.lack lacks.Room
    c.in-Err.is c.in-Room.is step.lack in
    let out = g.met.S.UnitSupply.let_go_out _ _ _ s.0 lack.0 c.requires.between s.1 s.3 lack.2 c.let_go.ensures.let_go
    in
    let ample = g.met.S.AmpleSupply.ample_let_go _ _ c.let_go.ensures.let_go
    (ap (λ (m : Memory). length m.bytes) c.let_go.ensures.memory)
    (g.met.S.AmpleSupply.ample_brought _ _ s.0 s.1 step.size
    (λ page at. listed (λ (p : ℕ). p * 4096 < length (g.S.Storage.memory c.args.storage.now).bytes) s.0 page
    s.2.inside at) c.requires.ample) in
    let inside : lack.0 * 4096 < length (g.S.Storage.memory c.let_go.new.self).bytes = subst
    (λ (n : ℕ). lack.0 * 4096 < n) (sym (ap (λ (m : Memory). length m.bytes) c.let_go.ensures.memory)) lack.1 in
    g.met.S.AmpleSupply.ample_out _ lack.0 ample inside out

pub returns-in-Memory-clause-paged_in : goal.returns-in-Memory-clause-paged_in
returns-in-Memory-clause-paged_in g c =
    let s = c.bring_and_advance-gone.ensures.supply in
    (s.0, g.met.S.UnitSupply.let_go_came _ _ _ s.0 s.1 c.let_go.ensures.let_go, s.2.all)

pub returns-in-Memory-clause-between : goal.returns-in-Memory-clause-between
returns-in-Memory-clause-between g c =
    let s = c.bring_and_advance-gone.ensures.supply in
    g.met.S.UnitSupply.let_go_between _ _ _ s.0 c.requires.between s.1 c.let_go.ensures.let_go

pub returns-in-Memory-clause-ample : goal.returns-in-Memory-clause-ample
returns-in-Memory-clause-ample g c =
    let step = c.bring_and_advance-gone.ensures in
    let s = step.supply in
    g.met.S.AmpleSupply.ample_let_go _ _ c.let_go.ensures.let_go
    (ap (λ (m : Memory). length m.bytes) c.let_go.ensures.memory)
    (g.met.S.AmpleSupply.ample_brought _ _ s.0 s.1 step.size
    (λ page at. listed (λ (p : ℕ). p * 4096 < length (g.S.Storage.memory c.args.storage.now).bytes) s.0 page
    s.2.inside at) c.requires.ample)
