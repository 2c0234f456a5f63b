use Rattle.std.proofs.Common.{[], ◌∷◌}
use Rattle.sessions.specs.Transcript.{ended}
use Rattle.sessions.proofs.Histories.{front_after, on_err}
use Rattle.programs.specs.Parts.{done_line}
use Rattle.programs.proofs.parts.tell_lines.Goals as goal

pub returns-in_err-write_flushed-clause-err : goal.returns-in_err-write_flushed-clause-err
returns-in_err-write_flushed-clause-err g c =
    let is = g.W.HostWriter.contents in
    on_err c.from_residual-in_err-write_flushed.result
    (front_after (is c.args.writer.now) (is c.write_all.new.writer) (is c.write_flushed.new.writer)
    c.args.lines.now (ended (done_line ∷ [])) c.in_ok-write_all.ensures.ok c.in_err-write_flushed.ensures.err)
