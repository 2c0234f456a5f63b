use Rattle.std.proofs.Common.{◌≡◌, ap, subst, ◌∙◌}
use Rattle.s370_rows.specs.State.{State, state_of}
use Rattle.s370_intr.specs.Units.{core_of, look}
use Rattle.s370_intr.specs.Run.{RunsTo}
use Rattle.s370_intr.proofs.Runs.{instructed_core, one_instruction, one_unit, still_fetched, still_held}
use Rattle.s370_intr.proofs.run.instruct_left_out.Goals as goal

pub returns-in-Some-clause-ran : goal.returns-in-Some-clause-ran
returns-in-Some-clause-ran g c =
    let before = state_of c.args.cpu.now (g.S.Storage.memory c.args.storage.now) in
    let after = state_of c.supervise_held.new.cpu (g.S.Storage.memory c.supervise_held.new.storage) in
    record {
      done = one_unit before after c.args.pending c.args.subchannels.now c.requires.plain
          c.in-Some.ensures.step.done;
      plain = c.is_plain-plain.ensures (g.S.Storage.memory c.supervise_held.new.storage);
      within = c.requires.some;
    }

pub returns-in-10-clause-ran : goal.returns-in-10-clause-ran
returns-in-10-clause-ran g c =
    let pending = c.args.pending in
    let list = c.args.subchannels.now in
    let before = state_of c.args.cpu.now (g.S.Storage.memory c.args.storage.now) in
    let after = state_of c.call_supervisor_in.new.cpu (g.S.Storage.memory c.call_supervisor_in.new.storage) in
    record {
      done = one_instruction (core_of before pending list) (core_of after pending list) c.requires.plain
          (instructed_core before after pending list list c.if-not-call_supervisor_in.ensures.instruction);
      plain = c.is_plain-is_next.ensures (g.S.Storage.memory c.call_supervisor_in.new.storage);
      within = c.requires.some;
    }

pub returns-in-Some-clause-current : goal.returns-in-Some-clause-current
returns-in-Some-clause-current g c is_it =
    let kept = c.supervise_held.ensures.rest in
    rw (c.has_key.ensures is_it ∙ c.key-key.ensures) (still_fetched c.args.cpu.now.psw.key c.args.blocks.current
    (g.met.S.Storage.placed_kept _ _ c.args.blocks.current kept) (g.met.S.Storage.keeps_size _ _ kept)
    c.supervise_held.ensures.step.keys (g.met.S.Storage.keeps_present _ _ kept) c.requires.next.fetched)

pub returns-in-Some-clause-previous : goal.returns-in-Some-clause-previous
returns-in-Some-clause-previous g c is_it =
    let kept = c.supervise_held.ensures.rest in
    rw (c.has_key.ensures is_it ∙ c.key-key.ensures) (still_fetched c.args.cpu.now.psw.key c.args.blocks.previous
    (g.met.S.Storage.placed_kept _ _ c.args.blocks.previous kept) (g.met.S.Storage.keeps_size _ _ kept)
    c.supervise_held.ensures.step.keys (g.met.S.Storage.keeps_present _ _ kept) c.requires.previous)

pub returns-in-Some-clause-operands : goal.returns-in-Some-clause-operands
returns-in-Some-clause-operands g c is_it =
    let kept = c.supervise_held.ensures.rest in
    let step = c.supervise_held.ensures.step in
    rw (c.has_key.ensures is_it ∙ c.key-key.ensures) (still_held c.args.cpu.now.psw.key c.supervise_held.new.held
    (λ block placed. g.met.S.Storage.placed_kept _ _ block kept placed) (g.met.S.Storage.keeps_size _ _ kept) step.keys
    (g.met.S.Storage.keeps_present _ _ kept) c.supervise_held.ensures.operands)

pub instruct_tested-went-requires-2-clause-plain : goal.instruct_tested-went-requires-2-clause-plain
instruct_tested-went-requires-2-clause-plain g c =
    ap (λ (x : State). look (core_of x c.args.pending c.args.subchannels.now)) c.in-None.ensures.step.still
    ∙ c.requires.plain

pub returns-clause-ran : goal.returns-clause-ran
returns-clause-ran g c =
    let pending = c.args.pending in
    let went = c.instruct_tested-went-2.result in
    let after = state_of c.instruct_tested-went-2.new.cpu (g.S.Storage.memory c.instruct_tested-went-2.new.storage) in
    subst (λ (x : State). RunsTo c.args.limit went.units went.is_plain (core_of x pending c.args.subchannels.now)
    (core_of after pending c.instruct_tested-went-2.new.subchannels)) c.in-None.ensures.step.still
    c.instruct_tested-went-2.ensures.ran

pub returns-clause-rest : goal.returns-clause-rest
returns-clause-rest g c =
    g.met.S.Keyed.rest_on _ _ _ (g.met.S.Keyed.rest_kept _ _ c.supervise_held.ensures.rest)
    c.instruct_tested-went-2.ensures.rest
