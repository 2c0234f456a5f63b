use Rattle.std.proofs.Common.{◌≡◌, List, ℕ, Option, ap, inr, refl, subst}
use Rattle.std.specs.Io.KnownBytes.{Appends}
use Rattle.s370_num.specs.Host.{AppendsFront}
use Rattle.sessions.proofs.Histories.{on_err}
use Rattle.programs.specs.Parts.{refusal}
use Rattle.programs.proofs.Exchanges.{sought_front, sought_told, unsought_front, was_sought, was_unsought}
use Rattle.programs.proofs.parts.seek.Goals as goal

pub returns-in_err-write_flushed-in-Done-clause-err : goal.returns-in_err-write_flushed-in-Done-clause-err
returns-in_err-write_flushed-in-Done-clause-err g c =
    let i = g.I.Installation.goes in
    let old = c.args.follower in
    let new = c.in-Done.follower in
    let a = g.W.HostWriter.contents c.args.writer.now in
    let b = g.W.HostWriter.contents c.seek.new.writer in
    let w = g.W.HostWriter.contents c.write_flushed.new.writer in
    let was = was_sought i old new c.in-Done.found c.args.text.now c.in_ok-follower.field-0 a b c.in-Done.is
    c.in_ok-follower.ensures.ok in
    on_err c.from_residual-in_err-write_flushed-in-Done.result
    (sought_front i was.0 c.in-Done.found old new c.args.text.now a b w was.1 was.2
    (subst (AppendsFront b w) c.seek_report.ensures c.in_err-write_flushed-in-Done.ensures.err))

pub returns-in_ok-write_flushed-in-Done-clause-ok : goal.returns-in_ok-write_flushed-in-Done-clause-ok
returns-in_ok-write_flushed-in-Done-clause-ok g c =
    let i = g.I.Installation.goes in
    let old = c.args.follower in
    let new = c.in-Done.follower in
    let a = g.W.HostWriter.contents c.args.writer.now in
    let b = g.W.HostWriter.contents c.seek.new.writer in
    let w = g.W.HostWriter.contents c.write_flushed.new.writer in
    let was = was_sought i old new c.in-Done.found c.args.text.now c.in_ok-follower.field-0 a b c.in-Done.is
    c.in_ok-follower.ensures.ok in
    sought_told i was.0 c.in-Done.found old new c.args.text.now a b w was.1 was.2
    (subst (Appends b w) c.seek_report.ensures c.in_ok-write_flushed-in-Done.ensures.ok)

pub returns-in_ok-write_flushed-in-Done-clause-detail : goal.returns-in_ok-write_flushed-in-Done-clause-detail
returns-in_ok-write_flushed-in-Done-clause-detail g c =
    let i = g.I.Installation.goes in
    let was = was_sought i c.args.follower c.in-Done.follower c.in-Done.found c.args.text.now c.in_ok-follower.field-0
    (g.W.HostWriter.contents c.args.writer.now) (g.W.HostWriter.contents c.seek.new.writer) c.in-Done.is
    c.in_ok-follower.ensures.ok in
    was.2.played.detail

pub returns-in_err-write_flushed-in-Refused-clause-err : goal.returns-in_err-write_flushed-in-Refused-clause-err
returns-in_err-write_flushed-in-Refused-clause-err g c =
    let i = g.I.Installation.goes in
    let old = c.args.follower in
    let new = c.in-Refused.follower in
    let a = g.W.HostWriter.contents c.args.writer.now in
    let b = g.W.HostWriter.contents c.seek.new.writer in
    let w = g.W.HostWriter.contents c.write_flushed-in-Refused.new.writer in
    let was = was_unsought i old new c.args.text.now c.in_ok-follower.field-0 a b c.in-Refused.is
    c.in_ok-follower.ensures.ok in
    on_err c.from_residual-in_err-write_flushed-in-Refused.result
    (unsought_front i old new c.args.text.now a b w was.0 was.1 was.2
    c.in_err-write_flushed-in-Refused.ensures.err)

pub returns-in_ok-write_flushed-in-Refused-clause-ok : goal.returns-in_ok-write_flushed-in-Refused-clause-ok
returns-in_ok-write_flushed-in-Refused-clause-ok g c =
    let i = g.I.Installation.goes in
    let old = c.args.follower in
    let new = c.in-Refused.follower in
    let a = g.W.HostWriter.contents c.args.writer.now in
    let b = g.W.HostWriter.contents c.seek.new.writer in
    let w = g.W.HostWriter.contents c.write_flushed-in-Refused.new.writer in
    let was = was_unsought i old new c.args.text.now c.in_ok-follower.field-0 a b c.in-Refused.is
    c.in_ok-follower.ensures.ok in (
      refusal,
      inr (was.0, was.1, refl),
      subst (λ (o : Option (List ℕ)). Appends o w refusal) was.2 c.in_ok-write_flushed-in-Refused.ensures.ok,
    )

pub returns-in_ok-write_flushed-in-Refused-clause-detail : goal.returns-in_ok-write_flushed-in-Refused-clause-detail
returns-in_ok-write_flushed-in-Refused-clause-detail g c =
    let i = g.I.Installation.goes in
    let was = was_unsought i c.args.follower c.in-Refused.follower c.args.text.now c.in_ok-follower.field-0
    (g.W.HostWriter.contents c.args.writer.now) (g.W.HostWriter.contents c.seek.new.writer) c.in-Refused.is
    c.in_ok-follower.ensures.ok in
    ap (λ s. s.detail) was.1
