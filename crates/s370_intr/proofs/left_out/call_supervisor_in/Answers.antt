use Rattle.std.proofs.Common.{◌∙◌, Ok, ap, sym, arith}
use Rattle.s370_rows.specs.State.{state_of}
use Rattle.s370_store.proofs.Blocks.{block_passes}
use Rattle.s370_cpu.proofs.Fetched.{fetch_finds}
use Rattle.s370_intr.proofs.left_out.call_supervisor_in.Goals as goal

pub call_supervisor-requires-clause-found : goal.call_supervisor-requires-clause-found
call_supervisor-requires-clause-found g c =
    let m = state_of c.args.cpu.now (g.S.Storage.memory c.args.storage.now) in
    let passes = block_passes _ _ _ _ c.args.block.first c.args.start 6 c.requires.may_fetch c.requires.begins
    (omega (arith, c.requires.ends)) in
    fetch_finds m c.args.start c.requires.even passes ∙ ap Ok
    (sym (rw c.get.ensures.value at c.load_known_in-call.ensures.instruction))
