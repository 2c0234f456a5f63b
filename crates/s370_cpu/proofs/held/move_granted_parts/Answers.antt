use Rattle.std.proofs.Common.{ℕ, Bool, sym, subst, rules}
use Rattle.s370_rows.specs.State.{state_of}
use Rattle.s370_cpu.specs.Held.{IsLongMoveAt}
use Rattle.s370_cpu.proofs.LongMoves.{parts_done}
use Rattle.s370_cpu.proofs.held.move_granted_parts.Goals as goal

pub returns-clause-done : goal.returns-clause-done
returns-clause-done g c =
    let m = state_of c.args.cpu.now (g.S.Storage.memory c.args.storage.now) in
    let m' = state_of c.move_long_parts.new.cpu (g.S.Storage.memory c.move_long_parts.new.storage) in
    (parts_done c.move_long_parts.result c.args.start c.args.second_byte (g.S.Storage.present c.args.storage.now) m m'
    (search rules) c.requires.same_start c.requires.stands c.move_long_parts.ensures.parts).units

pub returns-clause-same_start : goal.returns-clause-same_start
returns-clause-same_start g c =
    let m = state_of c.args.cpu.now (g.S.Storage.memory c.args.storage.now) in
    let m' = state_of c.move_long_parts.new.cpu (g.S.Storage.memory c.move_long_parts.new.storage) in
    (parts_done c.move_long_parts.result c.args.start c.args.second_byte (g.S.Storage.present c.args.storage.now) m m'
    (search rules) c.requires.same_start c.requires.stands c.move_long_parts.ensures.parts).here

pub returns-clause-stands : goal.returns-clause-stands
returns-clause-stands g c =
    let m = state_of c.args.cpu.now (g.S.Storage.memory c.args.storage.now) in
    let m' = state_of c.move_long_parts.new.cpu (g.S.Storage.memory c.move_long_parts.new.storage) in
    let done = parts_done c.move_long_parts.result c.args.start c.args.second_byte
    (g.S.Storage.present c.args.storage.now) m m' (search rules) c.requires.same_start c.requires.stands
    c.move_long_parts.ensures.parts in
    subst (λ (p : ℕ → Bool). IsLongMoveAt m' p c.args.start c.args.second_byte)
    (sym (g.met.S.Storage.keeps_present _ _ c.move_long_parts.ensures.rest)) done.stands
