use Rattle.std.proofs.Common.{◌≡◌, ◌+◌, ◌%◌, ◌^◌, Ok, ap, sym, ◌∙◌, ℕ}
use Rattle.s370_rows.specs.State.{State, state_of}
use Rattle.s370_intr.specs.declared.class.Class.TheVariants.{SupervisorCall}
use Rattle.s370_intr.specs.InputOutput.{configuration_of}
use Rattle.s370_intr.specs.Swap.{swapped}
use Rattle.s370_cpu.specs.Fetch.{fetched}
use Rattle.s370_cpu.specs.declared.conclude.Stop.TheVariants.{Svc}
use Rattle.s370_intr.proofs.Instructed.{call_misses, called, whole}
use Rattle.s370_intr.proofs.left_out.call_supervisor.Goals as goal

pub returns-in-Ok-clause-instruction : goal.returns-in-Ok-clause-instruction
returns-in-Ok-clause-instruction g c =
    let m = state_of c.args.cpu.now (g.S.Storage.memory c.args.storage.now) in
    let psw = c.args.cpu.now.psw in
    let new = c.set_address.new.self in
    let m1 : State = record m { cpu = record m.cpu { psw = new } } in
    let m2 = state_of c.interrupt.new.cpu (g.S.Storage.memory c.interrupt.new.storage) in
    let moved : new ≡ record psw { address = (psw.address + 2) % 2 ^ 24 } = c.set_address.ensures
    ∙ ap (λ (a : ℕ). record psw { address = a }) (c.wrapping_add.ensures
    ∙ ap (λ (a : ℕ). (a + 2) % 2 ^ 24) c.requires.here) in
    let found : (fetched m m.cpu.psw.address).result ≡ Ok c.args.call = rw (sym c.requires.here) c.requires.found in
    whole m m1 c.args.subchannels.now (configuration_of m2 c.args.subchannels.now)
    (g.S.Storage.present c.args.storage.now) (Svc c.args.call.second_byte 1)
    (called m c.args.call new found c.requires.called moved) (λ page e. cc)
    (ap (λ (x : State). configuration_of x c.args.subchannels.now) c.in-Ok.ensures.swap
    ∙ ap (λ (n : ℕ). configuration_of (swapped m1 SupervisorCall n 1) c.args.subchannels.now) c.from-number.ensures)

pub returns-in-Err-clause-instruction : goal.returns-in-Err-clause-instruction
returns-in-Err-clause-instruction g c =
    let m = state_of c.args.cpu.now (g.S.Storage.memory c.args.storage.now) in
    let psw = c.args.cpu.now.psw in
    let new = c.set_address.new.self in
    let m2 = state_of c.interrupt.new.cpu (g.S.Storage.memory c.interrupt.new.storage) in
    let moved : new ≡ record psw { address = (psw.address + 2) % 2 ^ 24 } = c.set_address.ensures
    ∙ ap (λ (a : ℕ). record psw { address = a }) (c.wrapping_add.ensures
    ∙ ap (λ (a : ℕ). (a + 2) % 2 ^ 24) c.requires.here) in
    let found : (fetched m m.cpu.psw.address).result ≡ Ok c.args.call = rw (sym c.requires.here) c.requires.found in
    call_misses m m2 c.args.subchannels.now c.args.call new c.set_address-in-Err.new.self
    (g.S.Storage.present c.args.storage.now) c.in-Err.page
    found c.requires.called moved c.in-Err.ensures.swap.0 (c.set_address-in-Err.ensures
    ∙ ap (λ (a : ℕ). record m2.cpu.psw { address = a }) c.requires.here) c.in-Err.ensures.swap.1
    c.in-Err.ensures.swap.2
