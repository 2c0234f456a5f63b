use Rattle.std.proofs.Common.{◌≡◌, ℕ, List, [], ◌∷◌, ◌++◌, ◌∙◌, ◌+◌, ◌-◌, ◌<◌, ◌≤◌, length, length-append, replicate}
use Rattle.std.proofs.Common.{subst, sym, arith}
use Rattle.std.proofs.lemmas.List.{length-replicate}
use Rattle.s370_rows.specs.State.{state_of}
use Rattle.s370_intr.specs.declared.next.Next.{Next}
use Rattle.s370_intr.specs.declared.next.Reason.TheVariants.{Count}
use Rattle.s370_intr.specs.Units.{NeedsAt, core_of, look, unit_at}
use Rattle.s370_intr.specs.Run.{AllNeeded, Run, run}
use Rattle.s370_intr.proofs.Runs.{all_done, does_many, does_more, each_more, each_none, each_on, not_stopped, tells_cut}
use Rattle.s370_intr.proofs.Runs.{tells_stop, Goes}
use Rattle.s370_intr.proofs.Brings.{begun_all}
use Rattle.s370_intr.proofs.run.run_units.Goals as goal

pub instruct_if_plain-went-requires-clause-plain : goal.instruct_if_plain-went-requires-clause-plain
instruct_if_plain-went-requires-clause-plain g c = c.is_plain-plain.ensures (g.S.Storage.memory c.args.storage.now)

pub instruct_if_plain-went-requires-in-loop-units : goal.instruct_if_plain-went-requires-in-loop-units
instruct_if_plain-went-requires-in-loop-units g c =
    let s = c.loop-units.invariant.supply in
    let t = c.in-Ok.ensures.supply in
    let size = g.met.S.UnitSupply.came_size _ _ (t.0 ∷ []) t.1 ∙ g.met.S.UnitSupply.came_size _ _ s.0 s.1 in
    record {
      size = subst (λ (k : ℕ). 8192 ≤ k) (sym size) c.requires.large;
      plain = c.is_plain-plain-in-loop-units.ensures (g.S.Storage.memory c.do_unit.new.storage);
    }

pub returns-then-units-count-clause-reported : goal.returns-then-units-count-clause-reported
returns-then-units-count-clause-reported g c =
    let n = c.instruct_if_plain-went.result.units in
    let first = core_of (state_of c.args.cpu.now (g.S.Storage.memory c.args.storage.now)) c.args.pending.now
    c.args.subchannels.now in
    let now = core_of (state_of c.instruct_if_plain-went.new.cpu
    (g.S.Storage.memory c.instruct_if_plain-went.new.storage))
    c.args.pending.now c.instruct_if_plain-went.new.subchannels in
    let reported : Run = record { core = now; units = n; reason = Count } in
    subst (λ (k : ℕ). run k first ≡ reported) c.if-units-count.true c.instruct_if_plain-went.ensures.ran.done

pub returns-then-units-count-clause-supply : goal.returns-then-units-count-clause-supply
returns-then-units-count-clause-supply g c =
    let n = c.instruct_if_plain-went.result.units in
    let first = core_of (state_of c.args.cpu.now (g.S.Storage.memory c.args.storage.now)) c.args.pending.now
    c.args.subchannels.now in
    let quiet : List (List ℕ) = replicate n [] in
    let many : length quiet ≡ n = length-replicate n [] in
    let quickly = c.instruct_if_plain-went.ensures.rest in
    (quiet, g.met.S.UnitSupply.came_none _ _ n c.requires.between quickly, each_none first 0 n, omega (arith, many))

pub loop-units-init : goal.loop-units-init
loop-units-init g c =
    let n = c.instruct_if_plain-went.result.units in
    let first = core_of (state_of c.args.cpu.now (g.S.Storage.memory c.args.storage.now)) c.args.pending.now
    c.args.subchannels.now in
    let quickly = c.instruct_if_plain-went.ensures.rest in
    record {
      within = c.instruct_if_plain-went.ensures.ran.within;
      ran = c.instruct_if_plain-went.ensures.ran.done;
      supply = (
        replicate n [],
        g.met.S.UnitSupply.came_none _ _ n c.requires.between quickly,
        each_none first 0 n,
        length-replicate n [],
      );
      between = g.met.S.UnitSupply.between_kept _ _ quickly c.requires.between;
      plain = c.instruct_if_plain-went.ensures.ran.plain;
    }

pub returns-in-Stops-clause-reported : goal.returns-in-Stops-clause-reported
returns-in-Stops-clause-reported g c =
    let k = c.loop-units.units in
    let first = core_of (state_of c.args.cpu.now (g.S.Storage.memory c.args.storage.now)) c.args.pending.now
    c.args.subchannels.now in
    let now = core_of (state_of c.loop-units.cpu (g.S.Storage.memory c.loop-units.storage)) c.loop-units.pending
    c.loop-units.subchannels in
    let e : c.next_of-next.result ≡ look now = c.next_of-next.ensures (g.S.Storage.memory c.loop-units.storage) in
    tells_stop k c.args.count first now c.in-Stops.reason _ c.loop-units.invariant.ran c.loop-units-test.true (sym e
    ∙ c.in-Stops.is)

pub returns-in-Stops-clause-supply : goal.returns-in-Stops-clause-supply
returns-in-Stops-clause-supply g c =
    let k = c.loop-units.units in
    let s = c.loop-units.invariant.supply in
    (s.0, s.1, s.2, omega (arith, s.3, begun_all k c.in-Stops.reason))

pub returns-in-Err : goal.returns-in-Err
returns-in-Err g c =
    let k = c.loop-units.units in
    let first = core_of (state_of c.args.cpu.now (g.S.Storage.memory c.args.storage.now)) c.args.pending.now
    c.args.subchannels.now in
    let now = core_of (state_of c.loop-units.cpu (g.S.Storage.memory c.loop-units.storage)) c.loop-units.pending
    c.loop-units.subchannels in
    let e : c.next_of-next.result ≡ look now = c.next_of-next.ensures (g.S.Storage.memory c.loop-units.storage) in
    let s = c.loop-units.invariant.supply in
    let t = c.in-Err.ensures.supply in
    let needed : AllNeeded (NeedsAt (look now) now) t.0 = subst (λ (l : Next). AllNeeded (NeedsAt l now) t.0) e t.2 in
    record {
      reported = tells_cut k c.args.count first now _ c.next_of-next.result _ c.loop-units.invariant.ran
          c.loop-units-test.true e c.in-Err.ensures.unit.0 c.in-Err.ensures.unit.1;
      supply = (
        s.0 ++ t.0 ∷ [],
        g.met.S.UnitSupply.came_on _ _ _ s.0 (t.0 ∷ []) s.1 t.1,
        each_more first now k s.0 t.0 c.loop-units.invariant.ran s.2 s.3 needed t.3,
        omega (arith, s.3, length-append s.0 (t.0 ∷ [])),
      );
      between = c.in-Err.ensures.between;
    }

pub loop-units-preserved : goal.loop-units-preserved
loop-units-preserved g c =
    let k = c.loop-units.units in
    let n = c.instruct_if_plain-went-in-loop-units.result.units in
    let first = core_of (state_of c.args.cpu.now (g.S.Storage.memory c.args.storage.now)) c.args.pending.now
    c.args.subchannels.now in
    let now = core_of (state_of c.loop-units.cpu (g.S.Storage.memory c.loop-units.storage)) c.loop-units.pending
    c.loop-units.subchannels in
    let new = core_of (state_of c.do_unit.new.cpu (g.S.Storage.memory c.do_unit.new.storage)) c.do_unit.new.pending
    c.do_unit.new.subchannels in
    let end = core_of (state_of c.instruct_if_plain-went-in-loop-units.new.cpu
    (g.S.Storage.memory c.instruct_if_plain-went-in-loop-units.new.storage)) c.do_unit.new.pending
    c.instruct_if_plain-went-in-loop-units.new.subchannels in
    let e : c.next_of-next.result ≡ look now = c.next_of-next.ensures (g.S.Storage.memory c.loop-units.storage) in
    let s = c.loop-units.invariant.supply in
    let t = c.in-Ok.ensures.supply in
    let goes : Goes (look now) = subst Goes e (not_stopped c.next_of-next.result c.in_default.not-Stops) in
    let step : new ≡ unit_at (look now) now = subst (λ (l : Next). new ≡ unit_at l now) e c.in-Ok.ensures.unit in
    let needed : AllNeeded (NeedsAt (look now) now) t.0 = subst (λ (l : Next). AllNeeded (NeedsAt l now) t.0) e t.2 in
    let one : run (k + 1) first ≡ all_done (k + 1) new = does_more k first now new c.loop-units.invariant.ran goes step
    in
    let within : n ≤ c.args.count - (k + 1) = c.instruct_if_plain-went-in-loop-units.ensures.ran.within in
    let less : k < c.args.count = c.loop-units-test.true in
    let quiet : List (List ℕ) = replicate n [] in
    let many : length quiet ≡ n = length-replicate n [] in
    let quickly = c.instruct_if_plain-went-in-loop-units.ensures.rest in
    let quietly = g.met.S.UnitSupply.came_none _ _ n c.in-Ok.ensures.between quickly in
    record {
      within = omega (arith, within, less);
      ran = does_many (k + 1) n first new end one c.instruct_if_plain-went-in-loop-units.ensures.ran.done;
      supply = (
        (s.0 ++ t.0 ∷ []) ++ quiet,
        g.met.S.UnitSupply.came_on _ _ _ (s.0 ++ t.0 ∷ []) quiet
            (g.met.S.UnitSupply.came_on _ _ _ s.0 (t.0 ∷ []) s.1 t.1) quietly,
        each_on first 0 (s.0 ++ t.0 ∷ []) quiet (each_more first now k s.0 t.0 c.loop-units.invariant.ran s.2 s.3 needed
            t.3) (each_none first _ n),
        omega (arith, s.3, length-append s.0 (t.0 ∷ []), length-append (s.0 ++ t.0 ∷ []) quiet, many),
      );
      between = g.met.S.UnitSupply.between_kept _ _ quickly c.in-Ok.ensures.between;
      plain = c.instruct_if_plain-went-in-loop-units.ensures.ran.plain;
    }
