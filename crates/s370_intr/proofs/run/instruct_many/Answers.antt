use Rattle.std.proofs.Common.{◌+◌, arith}
use Rattle.s370_intr.proofs.Runs.{does_many, is_so}
use Rattle.s370_intr.proofs.run.instruct_many.Goals as goal

pub returns-in-None-blocks-clause-ran : goal.returns-in-None-blocks-clause-ran
returns-in-None-blocks-clause-ran g c =
    let steady = c.instruct_held-steady.ensures.done c.args.pending c.loop-units.subchannels
    c.loop-units.invariant.plain in
    record {
      done = does_many c.loop-units.units c.instruct_held-steady.result.units _ _ _ c.loop-units.invariant.done
          steady.0;
      plain = λ _. steady.1;
      within = omega (arith, c.instruct_held-steady.ensures.within, c.loop-units-test.true);
    }

pub returns-in-None-clause-ran : goal.returns-in-None-clause-ran
returns-in-None-clause-ran g c =
    let before = c.loop-units.invariant in
    record { done = before.done; plain = λ _. before.plain; within = before.within }

pub instruct_left_out-went-requires-clause-plain : goal.instruct_left_out-went-requires-clause-plain
instruct_left_out-went-requires-clause-plain g c =
    (c.instruct_held-steady.ensures.done c.args.pending c.loop-units.subchannels c.loop-units.invariant.plain).1

pub returns-then-went-eq0-clause-ran : goal.returns-then-went-eq0-clause-ran
returns-then-went-eq0-clause-ran g c =
    let steady = c.instruct_held-steady.ensures.done c.args.pending c.loop-units.subchannels
    c.loop-units.invariant.plain in
    record {
      done = does_many (c.loop-units.units + c.instruct_held-steady.result.units)
          c.instruct_left_out-went.result.units _ _ _ (does_many c.loop-units.units
          c.instruct_held-steady.result.units _ _ _ c.loop-units.invariant.done steady.0)
          c.instruct_left_out-went.ensures.ran.done;
      plain = c.instruct_left_out-went.ensures.ran.plain;
      within = omega (
        arith,
        c.instruct_held-steady.ensures.within,
        c.instruct_left_out-went.ensures.ran.within,
        c.loop-units-test.true,
      );
    }

pub returns-then-went-eq0-clause-rest : goal.returns-then-went-eq0-clause-rest
returns-then-went-eq0-clause-rest g c =
    g.met.S.Keyed.rest_on _ _ _ (g.met.S.Keyed.rest_on _ _ _ c.loop-units.invariant.rest
    (g.met.S.Keyed.rest_kept _ _ c.instruct_held-steady.ensures.rest)) c.instruct_left_out-went.ensures.rest

pub loop-units-preserved : goal.loop-units-preserved
loop-units-preserved g c =
    let steady = c.instruct_held-steady.ensures.done c.args.pending c.loop-units.subchannels
    c.loop-units.invariant.plain in
    record {
      within = omega (
        arith,
        c.instruct_held-steady.ensures.within,
        c.instruct_left_out-went.ensures.ran.within,
        c.loop-units-test.true,
      );
      plain = c.instruct_left_out-went.ensures.ran.plain (is_so c.instruct_left_out-went.result.is_plain
          c.if-not-went.false);
      done = does_many (c.loop-units.units + c.instruct_held-steady.result.units)
          c.instruct_left_out-went.result.units _ _ _
          (does_many c.loop-units.units c.instruct_held-steady.result.units _ _ _ c.loop-units.invariant.done
          steady.0) c.instruct_left_out-went.ensures.ran.done;
      current = c.instruct_left_out-went.ensures.current;
      previous = c.instruct_left_out-went.ensures.previous;
      operands = c.instruct_left_out-went.ensures.operands;
      rest = g.met.S.Keyed.rest_on _ _ _ (g.met.S.Keyed.rest_on _ _ _ c.loop-units.invariant.rest
          (g.met.S.Keyed.rest_kept _ _ c.instruct_held-steady.ensures.rest)) c.instruct_left_out-went.ensures.rest;
    }

pub returns-clause-ran : goal.returns-clause-ran
returns-clause-ran g c =
    let before = c.loop-units.invariant in
    record { done = before.done; plain = λ _. before.plain; within = before.within }
