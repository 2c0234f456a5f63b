use Rattle.std.proofs.Common.{◌<◌, length, rules}
use Rattle.ckd_volume.proofs.Overlays.{copy_there, overlaid_copy}
use Rattle.ckd_volume.proofs.trial.begin_over.Goals as goal

pub returns-in-Some-clause-answer : goal.returns-in-Some-clause-answer
returns-in-Some-clause-answer c =
    let room : c.args.cylinder < length c.args.copies.now = search rules in
    let there = copy_there c.args.copies.now c.args.cylinder c.index-copies-cylinder.result c.in-Some.copy room
    c.index-copies-cylinder.is c.in-Some.is in
    rw (overlaid_copy c.args.own.now c.args.copies.now c.args.cylinder c.in-Some.copy c.requires.inside there)
    c.begin.ensures.answer

pub returns-in-Some-clause-after : goal.returns-in-Some-clause-after
returns-in-Some-clause-after c =
    let room : c.args.cylinder < length c.args.copies.now = search rules in
    let there = copy_there c.args.copies.now c.args.cylinder c.index-copies-cylinder.result c.in-Some.copy room
    c.index-copies-cylinder.is c.in-Some.is in
    rw (overlaid_copy c.args.own.now c.args.copies.now c.args.cylinder c.in-Some.copy c.requires.inside there)
    c.begin.ensures.after
