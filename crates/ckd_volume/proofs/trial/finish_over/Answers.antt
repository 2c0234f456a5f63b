use Rattle.std.proofs.Common.{◌≡◌, ◌<◌, Some, length, rules, ap, sym, ◌∙◌}
use Rattle.std.specs.Prelude.{slice_set}
use Rattle.ckd_volume.specs.End.{stands}
use Rattle.ckd_volume.specs.Table as table
use Rattle.ckd_volume.specs.Trial.{overlaid}
use Rattle.ckd_volume.proofs.Overlays.{copy_there, overlaid_copy, overlaid_set, set_again}
use Rattle.ckd_volume.proofs.trial.finish_over.Goals as goal

pub returns-in-Some-clause-after : goal.returns-in-Some-clause-after
returns-in-Some-clause-after c =
    let inside : c.args.cylinder < length c.args._own.now = search rules in
    let found : c.index_mut.result.now ≡ Some c.in-Some.copy = search (rules, c.in-Some.is, c.replace.ensures.value) in
    let there = copy_there c.args.copies.now.items c.args.cylinder c.index_mut.result.now c.in-Some.copy
    c.requires.inside c.index_mut.ensures.value found in
    let under = overlaid_copy c.args._own.now c.args.copies.now.items c.args.cylinder c.in-Some.copy inside there in
    c.finish-status.ensures.after ∙ ap (λ k. (table.ended c.args.panel.now k c.args.panel.now.job).front) (sym under)

pub returns-in-Some-clause-written : goal.returns-in-Some-clause-written
returns-in-Some-clause-written c =
    let vol = c.args._own.now in
    let copies = c.args.copies.now.items in
    let i = c.args.cylinder in
    let inside : c.args.cylinder < length c.args._own.now = search rules in
    let found : c.index_mut.result.now ≡ Some c.in-Some.copy = search (rules, c.in-Some.is, c.replace.ensures.value) in
    let there = copy_there c.args.copies.now.items c.args.cylinder c.index_mut.result.now c.in-Some.copy
    c.requires.inside c.index_mut.ensures.value found in
    let under = overlaid_copy vol copies i c.in-Some.copy inside there in
    (ap (λ os. overlaid vol os) (set_again copies i c.replace.new.dest (Some c.finish-status.new.cylinder))
    ∙ overlaid_set vol copies i c.finish-status.new.cylinder inside c.requires.inside
    ∙ ap (λ k. slice_set (overlaid vol copies) i k) (c.finish-status.ensures.written
    ∙ ap (λ k. stands k c.args.panel.now.head (table.ended c.args.panel.now k c.args.panel.now.job).written)
    (sym under)))
