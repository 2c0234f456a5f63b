use Rattle.std.proofs.Common.{◌∙◌, ◌++◌, [], ◌∷◌, List, ℕ, subst}
use Rattle.std.specs.Io.KnownBytes.{Appends}
use Rattle.s370_num.specs.Host.{AppendsFront}
use Rattle.sessions.specs.Transcript.{ended}
use Rattle.sessions.proofs.Histories.{err_then, ok_then}
use Rattle.programs.specs.Parts.{done_line}
use Rattle.programs.proofs.parts.tell_readers.Goals as goal

pub returns-clause-ok : goal.returns-clause-ok
returns-clause-ok g c =
    let a = g.W.HostWriter.contents c.args.writer.now in
    let b = g.W.HostWriter.contents c.tell_lines.new.writer in
    ok_then c.tell_lines.result
    (subst (λ (text : List ℕ). Appends a b (text ++ ended (done_line ∷ [])))
    (c.deref.ensures.value ∙ c.in_ok-lines.ensures))
    c.tell_lines.ensures.ok

pub returns-clause-err : goal.returns-clause-err
returns-clause-err g c =
    let a = g.W.HostWriter.contents c.args.writer.now in
    let b = g.W.HostWriter.contents c.tell_lines.new.writer in
    err_then c.tell_lines.result
    (subst (λ (text : List ℕ). AppendsFront a b (text ++ ended (done_line ∷ [])))
    (c.deref.ensures.value ∙ c.in_ok-lines.ensures))
    c.tell_lines.ensures.err
