use Rattle.std.proofs.Common.{All, List, Option, ℕ, subst}
use Rattle.std.proofs.lemmas.List.{take_all}
use Rattle.std.proofs.lemmas.List.Elements.{All-more}
use Rattle.std.specs.Prelude.{take}
use Rattle.cp_ccw.specs.CachedProgram.{IsNoted}
use Rattle.cp_ccw.proofs.Keeping.{all_noted_on, list_only}
use Rattle.cp_ccw.proofs.reuse.note_list.Goals as goal

pub loop-said-preserved : goal.loop-said-preserved
loop-said-preserved c = record {
  grows = λ h there. c.in_ok-note_entry.ensures.grows h (c.loop-said.invariant.grows h there);
  only = λ h there. list_only c.args.list.now c.loop-said.said-index _ h c.loop-said-test.true
      (c.loop-said.invariant.only h) (c.in_ok-note_entry.ensures.only h there);
  noted = All-more (IsNoted c.args.dat.now c.note_entry.new.held.items) c.args.list.now c.loop-said.said-index _
      c.loop-said-test.true
      (all_noted_on c.args.dat.now c.loop-said.held.items c.note_entry.new.held.items
      (take c.loop-said.said-index c.args.list.now) c.in_ok-note_entry.ensures.grows c.loop-said.invariant.noted)
      c.in_ok-note_entry.ensures.noted;
  stand = λ all. c.in_ok-note_entry.ensures.stand (c.loop-said.invariant.stand all);
}

pub returns-clause-noted : goal.returns-clause-noted
returns-clause-noted c =
    subst (λ (list : List (Option ℕ)). All (IsNoted c.args.dat.now c.loop-said.held.items) list)
    (take_all c.loop-said.said-index c.args.list.now c.loop-said-test.false) c.loop-said.invariant.noted
