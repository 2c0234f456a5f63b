use Rattle.std.proofs.Common.{arith, length, ◌<◌, ◌≡◌, ◌+◌, ◌-◌, None, get_or, drop, ap, sym, subst, ◌∙◌, Option, List}
use Rattle.std.proofs.Common.{ℕ}
use Rattle.std.specs.Prelude.{IsSome, is_some}
use Rattle.std.proofs.lemmas.List.{get_or_default}
use Rattle.cp_frames.specs.declared.numbers.UserPage.{UserPage}
use Rattle.cp_frames.specs.Layout.{AreTaken}
use Rattle.cp_frames.proofs.Orders.{all_from}
use Rattle.cp_frames.proofs.order.free_turn.Goals as goal

pub loop-after-init : goal.loop-after-init
loop-after-init c = let e : c.args.end ≡ c.args.end - 0 =
    omega arith in subst (λ n. AreTaken c.args.owners.now (drop n c.args.order.now)) e c.requires.taken

pub loop-after-preserved : goal.loop-after-preserved
loop-after-preserved c =
    let order = c.args.order.now in
    let owners : List (Option UserPage) = c.args.owners.now in
    let P : ℕ → Type 0 = λ frame. IsSome (get_or owners frame None) in
    let end = c.args.end in
    let after = c.loop-after.after in
    let turn = end - 1 - after in
    let lt : turn < length order = omega (arith, c.loop-after-test.true, c.requires.end) in
    let within = c.requires.frames turn 0 lt in
    let found = c.index-owners-frame_at.result in
    let is : get_or owners (get_or order turn 0) None ≡ found =
    get_or_default owners (get_or order turn 0) None found within
    ∙ ap (λ frame. get_or owners frame found) (sym c.frame_at.ensures) ∙ sym c.index-owners-frame_at.is in
    let here : P (get_or order turn 0) = ap is_some is ∙ c.if-is_none.ensures in
    let e : end - after ≡ turn + 1 = omega (arith, c.loop-after-test.true) in
    let f : turn ≡ end - (after + 1) = omega arith in
    subst (λ n. AreTaken owners (drop n order)) f
    (all_from P order turn 0 lt here (subst (λ n. AreTaken owners (drop n order)) e c.loop-after.invariant))

pub returns-then-is_none-clause-later : goal.returns-then-is_none-clause-later
returns-then-is_none-clause-later c =
    let e : c.args.end - c.loop-after.after ≡ c.args.end - 1 - c.loop-after.after + 1 =
    omega (arith, c.loop-after-test.true) in
    subst (λ n. AreTaken c.args.owners.now (drop n c.args.order.now)) e c.loop-after.invariant

pub returns-clause-none : goal.returns-clause-none
returns-clause-none c =
    let e : c.args.end - c.loop-after.after ≡ 0 = omega (arith, c.loop-after-test.false) in
    subst (λ n. AreTaken c.args.owners.now (drop n c.args.order.now)) e c.loop-after.invariant
