use Rattle.std.proofs.Common.{arith}
use Rattle.s370_rows.specs.State.{state_of}
use Rattle.s370_store.proofs.Blocks.{block_passes}
use Rattle.s370_cpu.proofs.Fetched.{fetch_finds}
use Rattle.s370_cpu.proofs.held.step_held.Goals as goal

pub step_found-requires-clause-found : goal.step_found-requires-clause-found
step_found-requires-clause-found g c =
    let m = state_of c.args.cpu.now (g.S.Storage.memory c.args.storage.now) in
    fetch_finds m c.args.start c.requires.even (block_passes _ _ _ _ c.args.block.first c.args.start 6
    c.requires.may_fetch c.requires.begins (omega (arith, c.requires.ends)))
