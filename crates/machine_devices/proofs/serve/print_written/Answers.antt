use Rattle.std.proofs.Common.{◌∙◌, ◌++◌, ◌≤◌, ℕ, List, take, length, ap, subst, rules}
use Rattle.machine_panel.specs.Machine.{Parts}
use Rattle.machine_devices.proofs.Printed.{one_printed, all_printed, printed_on}
use Rattle.machine_devices.proofs.serve.print_written.Goals as goal

pub loop-line-init : goal.loop-line-init
loop-line-init c = search rules

pub loop-line-preserved : goal.loop-line-preserved
loop-line-preserved c =
    let old : Parts = c.args.machine.now in
    let short : length c.line-item.result ≤ 132 =
    subst (λ (x : List ℕ). length x ≤ 132) c.as_slice.ensures.value c.as_slice.ensures.bound in
    let said = c.of.ensures ∙ ap (λ (x : List ℕ). take 144 x) c.as_slice.ensures.value in
    let e = one_printed old.output c.lines-line-items.result.now c.loop-line.line-index c.line-item.result _
    c.loop-line-test.true c.line-item.is short said in
    printed_on old c.loop-line.machine c.make_room.new.self c.print.new.self _ _ _ _ _ _ c.loop-line.invariant
    c.in_ok-make_room.ensures.kept c.print.ensures.printed e

pub returns-clause-printed : goal.returns-clause-printed
returns-clause-printed c =
    let old : Parts = c.args.machine.now in
    c.loop-line.invariant ∙ ap (λ (o : List (List ℕ)). record old { output = o; room = c.loop-line.machine.room })
    (all_printed old.output c.lines-line-items.result.now c.loop-line.line-index c.loop-line-test.false ∙ ap
    (λ (l : List (List ℕ)). old.output ++ l) c.lines-line-items.ensures)
