use Rattle.std.proofs.Common.{◌≡◌, arith, ◌∙◌, ap, ℕ, ◌<◌, ◌-◌, ◌*◌, sym, subst, suc}
use Rattle.s370_store.specs.Memory.{memory_of}
use Rattle.s370_rows.specs.declared.cpu.Cpu.{Cpu}
use Rattle.s370_rows.specs.State.{State, state_of}
use Rattle.s370_bytes.specs.Long.{AreParts, operand_of, past, with_operand}
use Rattle.s370_bytes.specs.declared.long.Operand.{Operand}
use Rattle.s370_bytes.proofs.Parts.{AreWhole, left_of, moved_by, parts_are}
use Rattle.s370_bytes.proofs.long.move_whole_parts.Goals as goal

pub returns-clause-parts : goal.returns-clause-parts
returns-clause-parts g c i e f =
    let cpu = c.args.cpu.now in
    let r1 = c.args.r1 in
    let r2 = c.args.r2 in
    let m = state_of cpu (g.S.Storage.memory c.args.storage.now) in
    let n = 256 * c.args.parts in
    let is_it = c.if-not-copy_granted.false in
    let granted = c.copy_granted.ensures.granted is_it in
    let to : c.get-to.result ≡ (operand_of cpu r1).address = c.get-to.ensures.value
    ∙ ap (λ (o : Operand). o.address) c.of-first.ensures.value in
    let from : c.get-from.result ≡ (operand_of cpu r2).address = c.get-from.ensures.value
    ∙ ap (λ (o : Operand). o.address) c.of-second.ensures.value in
    let first : c.past.result ≡ past (operand_of cpu r1) n = c.past.ensures.value
    ∙ ap (λ (o : Operand). past o n) c.of-first.ensures.value in
    let second : c.past-2.result ≡ past (operand_of cpu r2) n = c.past-2.ensures.value
    ∙ ap (λ (o : Operand). past o n) c.of-second.ensures.value in
    let left : c.advance_pair-2.new.cpu ≡ left_of cpu r1 r2 n =
    c.advance_pair-2.ensures ∙ (ap (λ (x : Cpu). with_operand x r2 c.past-2.result) c.advance_pair.ensures
    ∙ (ap (λ (o : Operand). with_operand (with_operand cpu r1 o) r2 c.past-2.result) first
    ∙ ap (λ (o : Operand). with_operand (with_operand cpu r1 (past (operand_of cpu r1) n)) r2 o) second)) in
    let some : 0 < n = omega (arith, c.requires.some) in
    let whole : AreWhole c.args.start m r1 r2 n = record {
      some = some;
      more = c.requires.more;
      whole = c.requires.whole;
      target = (rw to at (granted.1.0 some).inside);
      source = (rw from at (granted.1.1.0 some).inside);
      fine = (rw (to, from) at granted.0);
      intact = c.requires.intact;
      apart = (rw (c.get.ensures.value, to) at (c.excludes.ensures c.if-not-excludes.false));
    } in
    let parts = parts_are (c.args.parts - 1) n c.args.start (g.S.Storage.present c.args.storage.now) i m r1 r2
    (omega (arith, c.requires.some)) e f c.requires.apart c.requires.first c.requires.second
    c.of-first.ensures.registers
    (λ more. (c.requires.block (omega arith), c.requires.block_2 (omega arith))) whole in
    let after : moved_by m r1 r2 n ≡ state_of c.advance_pair-2.new.cpu (g.S.Storage.memory c.copy_granted.new.storage) =
    ap (λ (x : Cpu). state_of x (memory_of (moved_by m r1 r2 n).bytes m.keys)) (sym left)
    ∙ ap (state_of c.advance_pair-2.new.cpu) (sym (rw (to, from) at (c.copy_granted.ensures.moved is_it))) in
    let count : suc (c.args.parts - 1) ≡ c.args.parts = omega (arith, c.requires.some) in
    subst (λ (k : ℕ). AreParts k c.args.start (g.S.Storage.present c.args.storage.now) i m
    (state_of c.advance_pair-2.new.cpu (g.S.Storage.memory c.copy_granted.new.storage))) count
    (subst (λ (x : State). AreParts (suc (c.args.parts - 1)) c.args.start
    (g.S.Storage.present c.args.storage.now) i m x) after parts)
