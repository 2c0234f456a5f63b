use Rattle.std.proofs.Common.{ap, sym, ◌∙◌, arith}
use Rattle.s370_rows.specs.State.{state_of}
use Rattle.s370_intr.specs.Units.{core_of, look}
use Rattle.s370_intr.proofs.Runs.{all_done, instructed_core, one_instruction, same_core}
use Rattle.s370_intr.proofs.run.instruct_tested.Goals as goal

pub returns-then-load_byte_in-eq-LONG_MOVE-clause-ran : goal.returns-then-load_byte_in-eq-LONG_MOVE-clause-ran
returns-then-load_byte_in-eq-LONG_MOVE-clause-ran g c =
    let moved = c.move_parts-units.ensures.done c.args.pending c.args.subchannels.now c.requires.plain in
    record { done = moved.0; plain = λ _. moved.1; within = c.move_parts-units.ensures.within }

pub returns-then-not-instruct_in-clause-ran : goal.returns-then-not-instruct_in-clause-ran
returns-then-not-instruct_in-clause-ran g c =
    let before = state_of c.args.cpu.now (g.S.Storage.memory c.args.storage.now) in
    let after = state_of c.instruct_in.new.cpu (g.S.Storage.memory c.instruct_in.new.storage) in
    let same = same_core before after c.args.pending c.args.subchannels.now c.instruct_in.new.subchannels
    c.if-not-instruct_in.ensures.instruction in
    record { done = ap (all_done 0) (sym same); plain = λ _. ap look same ∙ c.requires.plain; within = omega arith }

pub returns-clause-ran : goal.returns-clause-ran
returns-clause-ran g c =
    let before = state_of c.args.cpu.now (g.S.Storage.memory c.args.storage.now) in
    let after = state_of c.instruct_in.new.cpu (g.S.Storage.memory c.instruct_in.new.storage) in
    record {
      done = one_instruction (core_of before c.args.pending c.args.subchannels.now)
          (core_of after c.args.pending c.instruct_in.new.subchannels) c.requires.plain
          (instructed_core before after c.args.pending c.args.subchannels.now c.instruct_in.new.subchannels
          c.if-not-instruct_in.ensures.instruction);
      plain = c.is_plain.ensures (g.S.Storage.memory c.instruct_in.new.storage);
      within = c.requires.some;
    }
