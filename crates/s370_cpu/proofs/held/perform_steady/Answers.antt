use Rattle.std.proofs.Common.{◌≡◌, ℕ, Bool, true, false, sym, ◌∙◌, ap}
use Rattle.std.specs.Prelude.{nat_le}
use Rattle.s370_rows.specs.State.{state_of}
use Rattle.s370_cpu.specs.Opcodes.{opcode_at}
use Rattle.s370_cpu.specs.Table.{is_steady, may_overflow}
use Rattle.s370_cpu.proofs.Quiet.{steady_of}
use Rattle.s370_cpu.proofs.held.perform_steady.Goals as goal

pub returns-clause-row : goal.returns-clause-row
returns-clause-row g c =
    let m = state_of c.args.cpu.now (g.S.Storage.memory c.args.storage.now) in
    let m' = state_of c.perform_held.new.cpu (g.S.Storage.memory c.perform_held.new.storage) in
    let steady : is_steady (opcode_at c.args.i.opcode) ≡ true = ap
    (λ (code : ℕ). is_steady (opcode_at code)) c.requires.same ∙ sym c.is_steady.ensures.steady
    ∙ c.if-not-is_steady.false in
    let none : may_overflow (opcode_at c.args.i.opcode) ≡ true
    → nat_le 8 m.cpu.psw.program_mask ≡ false = λ h. c.overflow_interrupts.ensures c.if-overflow_interrupts.false
    (ap (λ (code : ℕ). may_overflow (opcode_at code)) (sym c.requires.same) ∙ h) in
    steady_of m c.args.place c.args.i (g.S.Storage.present c.args.storage.now) c.perform_held.result m' steady none
    c.perform_held.ensures.row
