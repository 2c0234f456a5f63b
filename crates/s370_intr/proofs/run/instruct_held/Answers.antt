use Rattle.std.proofs.Common.{◌≡◌, ◌-◌, ◌∙◌, ap, arith, refl, sym}
use Rattle.s370_rows.specs.State.{State, state_of}
use Rattle.s370_cpu.specs.Laws.{Rights}
use Rattle.s370_intr.proofs.Runs.{and_no_more, and_one_left, left_out, stepped_to, still_fetched, still_held}
use Rattle.s370_intr.proofs.run.instruct_held.Goals as goal

pub other_blocks-requires : goal.other_blocks-requires
other_blocks-requires g c =
    let rights = c.step_held-went.ensures.step.rights in
    let rest = c.step_held-went.ensures.rest in
    record {
      current = still_fetched c.key-key.result c.loop-left.blocks.current
          (g.met.S.Storage.placed_kept _ _ c.loop-left.blocks.current rest) (g.met.S.Storage.keeps_size _ _ rest)
          (ap (λ (r : Rights). r.keys) rights) (g.met.S.Storage.keeps_present _ _ rest)
          c.loop-left.invariant.current;
      previous = still_fetched c.key-key.result c.loop-left.blocks.previous
          (g.met.S.Storage.placed_kept _ _ c.loop-left.blocks.previous rest) (g.met.S.Storage.keeps_size _ _ rest)
          (ap (λ (r : Rights). r.keys) rights) (g.met.S.Storage.keeps_present _ _ rest)
          c.loop-left.invariant.previous;
    }

pub loop-left-preserved : goal.loop-left-preserved
loop-left-preserved g c =
    let m0 = state_of c.args.cpu.now (g.S.Storage.memory c.args.storage.now) in
    let m = state_of c.loop-left.cpu (g.S.Storage.memory c.loop-left.storage) in
    let m' = state_of c.step_held-went.new.cpu (g.S.Storage.memory c.step_held-went.new.storage) in
    let rights = c.step_held-went.ensures.step.rights in
    let rest = c.step_held-went.ensures.rest in
    let step = stepped_to (g.S.Storage.present c.loop-left.storage) m m' _ c.in-Some-next.address
    (sym c.next.ensures ∙ c.in-Some-next.is) c.step_held-went.ensures.step in
    record {
      here = step.next;
      key = c.loop-left.invariant.key ∙ sym (ap (λ (r : Rights). r.key) rights);
      current = c.in-Some-other_blocks.ensures.current;
      previous = c.in-Some-other_blocks.ensures.previous;
      begins = c.in-Some-other_blocks.ensures.begins;
      ends = c.in-Some-other_blocks.ensures.ends;
      even = c.in-Some-other_blocks.ensures.even;
      within = omega (arith, c.loop-left.invariant.within);
      operands = still_held c.key-key.result c.step_held-went.new.held
          (λ block kept. g.met.S.Storage.placed_kept _ _ block rest kept) (g.met.S.Storage.keeps_size _ _ rest)
          (ap (λ (r : Rights). r.keys) rights) (g.met.S.Storage.keeps_present _ _ rest)
          (rw (sym c.loop-left.invariant.key) at c.step_held-went.ensures.operands);
      done = and_one_left c.args.limit c.loop-left.left m0 m m' (g.S.Storage.present c.loop-left.storage)
          c.in-Some-next.address c.loop-left-test.true c.loop-left.invariant.within c.loop-left.invariant.done step;
      rest = g.met.S.Storage.keeps_on _ _ _ c.loop-left.invariant.rest rest;
    }

pub loop-left-preserved-then-stays_in : goal.loop-left-preserved-then-stays_in
loop-left-preserved-then-stays_in g c =
    let m0 = state_of c.args.cpu.now (g.S.Storage.memory c.args.storage.now) in
    let m = state_of c.loop-left.cpu (g.S.Storage.memory c.loop-left.storage) in
    let m' = state_of c.step_held-went.new.cpu (g.S.Storage.memory c.step_held-went.new.storage) in
    let rights = c.step_held-went.ensures.step.rights in
    let rest = c.step_held-went.ensures.rest in
    let step = stepped_to (g.S.Storage.present c.loop-left.storage) m m' _ c.in-Some-next.address
    (sym c.next.ensures ∙ c.in-Some-next.is) c.step_held-went.ensures.step in
    record {
      here = step.next;
      key = c.loop-left.invariant.key ∙ sym (ap (λ (r : Rights). r.key) rights);
      current = still_fetched c.key-key.result c.loop-left.blocks.current
          (g.met.S.Storage.placed_kept _ _ c.loop-left.blocks.current rest) (g.met.S.Storage.keeps_size _ _ rest)
          (ap (λ (r : Rights). r.keys) rights) (g.met.S.Storage.keeps_present _ _ rest)
          c.loop-left.invariant.current;
      previous = still_fetched c.key-key.result c.loop-left.blocks.previous
          (g.met.S.Storage.placed_kept _ _ c.loop-left.blocks.previous rest) (g.met.S.Storage.keeps_size _ _ rest)
          (ap (λ (r : Rights). r.keys) rights) (g.met.S.Storage.keeps_present _ _ rest)
          c.loop-left.invariant.previous;
      begins = c.if-stays_in.ensures.begins refl;
      ends = c.if-stays_in.ensures.ends refl;
      even = c.if-stays_in.ensures.even refl;
      within = omega (arith, c.loop-left.invariant.within);
      operands = still_held c.key-key.result c.step_held-went.new.held
          (λ block kept. g.met.S.Storage.placed_kept _ _ block rest kept) (g.met.S.Storage.keeps_size _ _ rest)
          (ap (λ (r : Rights). r.keys) rights) (g.met.S.Storage.keeps_present _ _ rest)
          (rw (sym c.loop-left.invariant.key) at c.step_held-went.ensures.operands);
      done = and_one_left c.args.limit c.loop-left.left m0 m m' (g.S.Storage.present c.loop-left.storage)
          c.in-Some-next.address c.loop-left-test.true c.loop-left.invariant.within c.loop-left.invariant.done step;
      rest = g.met.S.Storage.keeps_on _ _ _ c.loop-left.invariant.rest rest;
    }

pub returns-in-None-other_blocks : goal.returns-in-None-other_blocks
returns-in-None-other_blocks g c =
    let m0 = state_of c.args.cpu.now (g.S.Storage.memory c.args.storage.now) in
    let m = state_of c.loop-left.cpu (g.S.Storage.memory c.loop-left.storage) in
    let m' = state_of c.step_held-went.new.cpu (g.S.Storage.memory c.step_held-went.new.storage) in
    record {
      done = and_one_left c.args.limit c.loop-left.left m0 m m' (g.S.Storage.present c.loop-left.storage)
          c.in-Some-next.address c.loop-left-test.true c.loop-left.invariant.within c.loop-left.invariant.done
          (stepped_to (g.S.Storage.present c.loop-left.storage) m m' _ c.in-Some-next.address
          (sym c.next.ensures ∙ c.in-Some-next.is) c.step_held-went.ensures.step);
      within = omega arith;
      left = tt;
      next = tt;
      previous = tt;
      operands = tt;
      rest = g.met.S.Storage.keeps_on _ _ _ c.loop-left.invariant.rest c.step_held-went.ensures.rest;
    }

pub returns-in-None-next : goal.returns-in-None-next
returns-in-None-next g c =
    let m0 = state_of c.args.cpu.now (g.S.Storage.memory c.args.storage.now) in
    let m = state_of c.loop-left.cpu (g.S.Storage.memory c.loop-left.storage) in
    let m' = state_of c.step_held-went.new.cpu (g.S.Storage.memory c.step_held-went.new.storage) in
    let rights = c.step_held-went.ensures.step.rights in
    let rest = c.step_held-went.ensures.rest in
    let same : m' ≡ m = left_out (g.S.Storage.present c.loop-left.storage) m m' _
    (sym c.next.ensures ∙ c.in-None-next.is) c.step_held-went.ensures.step in
    let key : c.key-key.result ≡ m'.cpu.psw.key = c.loop-left.invariant.key
    ∙ sym (ap (λ (r : Rights). r.key) rights) in
    let here : c.loop-left.next ≡ m'.cpu.psw.address = c.loop-left.invariant.here
    ∙ sym (ap (λ (x : State). x.cpu.psw.address) same) in
    record {
      done = and_no_more (c.args.limit - c.loop-left.left) m0 m m' c.loop-left.invariant.done same;
      within = omega arith;
      left = omega (arith, c.loop-left-test.true, c.loop-left.invariant.within);
      next = record {
        fetched = rw (sym key) (still_fetched c.key-key.result c.loop-left.blocks.current
            (g.met.S.Storage.placed_kept _ _ c.loop-left.blocks.current rest) (g.met.S.Storage.keeps_size _ _ rest)
            (ap (λ (r : Rights). r.keys) rights) (g.met.S.Storage.keeps_present _ _ rest)
            c.loop-left.invariant.current);
        begins = rw (sym here) c.loop-left.invariant.begins;
        ends = rw (sym here) c.loop-left.invariant.ends;
        even = rw (sym here) c.loop-left.invariant.even;
      };
      previous = rw (sym key) (still_fetched c.key-key.result c.loop-left.blocks.previous
          (g.met.S.Storage.placed_kept _ _ c.loop-left.blocks.previous rest) (g.met.S.Storage.keeps_size _ _ rest)
          (ap (λ (r : Rights). r.keys) rights) (g.met.S.Storage.keeps_present _ _ rest)
          c.loop-left.invariant.previous);
      operands = rw (sym key) (still_held c.key-key.result c.step_held-went.new.held
          (λ block kept. g.met.S.Storage.placed_kept _ _ block rest kept) (g.met.S.Storage.keeps_size _ _ rest)
          (ap (λ (r : Rights). r.keys) rights) (g.met.S.Storage.keeps_present _ _ rest)
          (rw (sym c.loop-left.invariant.key) at c.step_held-went.ensures.operands));
      rest = g.met.S.Storage.keeps_on _ _ _ c.loop-left.invariant.rest rest;
    }
