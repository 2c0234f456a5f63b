use Rattle.std.proofs.Common.{sym, ◌∙◌}
use Rattle.sessions.proofs.FileLines.{note_more}
use Rattle.sessions.proofs.files.operator_file_lines.Goals as goal

pub loop-place-preserved : goal.loop-place-preserved
loop-place-preserved g c =
    let seen = g.I.Installation.goes.seen c.args.installation.now in
    note_more c.args.telling seen c.loop-place.text.items c.append_noted.new.out.items seen.files c.loop-place.place
    c.in-Some.note (sym c.in-Some.is ∙ c.file.ensures) c.in_ok-append_noted.ensures
    ∙ c.loop-place.invariant
