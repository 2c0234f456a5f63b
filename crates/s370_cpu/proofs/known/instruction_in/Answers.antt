use Rattle.std.proofs.Common.{sym, ◌∙◌, rules}
use Rattle.s370_cpu.proofs.Fetched.{six_hold, first_of}
use Rattle.s370_cpu.proofs.known.instruction_in.Goals as goal

pub returns-clause-instruction : goal.returns-clause-instruction
returns-clause-instruction c storage start six known =
    let same = known ∙ sym (first_of storage c.args.bytes.now start six) in
    rw (c.half.ensures, c.half-2.ensures, same) (six_hold storage c.args.bytes.now start six (search rules))
