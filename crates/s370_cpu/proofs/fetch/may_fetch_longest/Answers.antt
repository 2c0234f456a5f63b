use Rattle.std.proofs.Common.{◌≡◌, ◌%◌, arith}
use Rattle.s370_rows.specs.State.{state_of}
use Rattle.s370_cpu.proofs.Fetched.{fetch_finds}
use Rattle.s370_cpu.proofs.fetch.may_fetch_longest.Goals as goal

pub returns-in-Ok-clause-found : goal.returns-in-Ok-clause-found
returns-in-Ok-clause-found g c e =
    let m = state_of c.args.cpu.now (g.S.Storage.memory c.args.storage.now) in
    let even : c.args.start % 2 ≡ 0 = omega (arith, c.if-start-ne0.false) in
    fetch_finds m c.args.start even (rw (← c.requires) c.in-Ok.ensures.0)
