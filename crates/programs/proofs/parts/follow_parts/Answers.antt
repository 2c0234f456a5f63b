use Rattle.std.proofs.Common.{◌≡◌, ◌∙◌, inl, inr, true, [], refl, arith}
use Rattle.std.proofs.KnownBytes.{Consumes-nil}
use Rattle.sessions.specs.Session.{at_first}
use Rattle.programs.specs.Faults.{file_failure, play_failure}
use Rattle.programs.specs.Parts.{Exchange, IsBrokenOff, IsExchange, IsUnanswerable}
use Rattle.programs.specs.Requests.{end_line}
use Rattle.programs.specs.declared.faults.Failure.TheVariants as failures
use Rattle.programs.specs.declared.requests.NextRequest.TheVariants as nexts
use Rattle.programs.proofs.Exchanges.{broken_off, closed_why, counted, end_failed, followed_to, if_err, input_failed}
use Rattle.programs.proofs.Exchanges.{is_next, no_file, of_file, of_play, output_failed}
use Rattle.programs.proofs.Exchanges.{so_far_more}
use Rattle.programs.proofs.Exchanges.{so_far_none, why_of, wider}
use Rattle.programs.proofs.parts.follow_parts.Goals as goal

pub returns-in_err-follower-clause-err : goal.returns-in_err-follower-clause-err
returns-in_err-follower-clause-err g c =
    let i = g.I.Installation.goes in
    let r = g.R.HostReader.remaining c.args.reader.now in
    let w = g.W.HostWriter.contents c.args.writer.now in
    let first = at_first i c.args.detail c.args.installation in
    let counts = counted (g.R.HostFile.failures c.args.reader.now) (g.R.HostFile.failures c.args.reader.now)
    (g.W.HostFile.failures c.args.writer.now) (g.W.HostFile.failures c.args.writer.now) in
    if_err (IsBrokenOff i c.args.detail c.args.installation r r w w counts) (failures.Memory) c.from_residual.result
    c.from_residual.ensures.1
    (broken_off i 0 c.args.detail c.args.installation first [] r r r w w w counts (so_far_none i first r w)
    (Consumes-nil r) (inl refl) (failures.Memory) tt (no_file counts (IsUnanswerable 0 [] r)))

pub returns-in_err-request-clause-err : goal.returns-in_err-request-clause-err
returns-in_err-request-clause-err g c =
    let i = g.I.Installation.goes in
    let left = g.R.HostReader.remaining in
    let w = g.W.HostWriter.contents c.args.writer.now in
    let x = g.W.HostWriter.contents c.loop.writer in
    let read = c.in_err-request.ensures.err in
    let fault = c.in_err-request.field-0.0 in
    let counts = counted (g.R.HostFile.failures c.args.reader.now) (g.R.HostFile.failures c.next_input.new.reader)
    (g.W.HostFile.failures c.args.writer.now) (g.W.HostFile.failures c.loop.writer) in
    if_err (IsBrokenOff i c.args.detail c.args.installation (left c.args.reader.now) (left c.next_input.new.reader) w x
    counts) (file_failure fault) c.from_residual-in_err-request.result c.from_residual-in_err-request.ensures.1
    (broken_off i c.loop.counter c.args.detail c.args.installation c.loop.follower read.0 (left c.args.reader.now)
    (left c.loop.reader) (left c.next_input.new.reader) w x x counts c.loop.invariant.so_far read.1 (inl refl)
    (file_failure fault) (of_file _ _ fault) (input_failed fault (g.R.HostFile.failures c.loop.reader)
    (g.R.HostFile.failures c.args.reader.now) (g.R.HostFile.failures c.next_input.new.reader)
    (g.W.HostFile.failures c.args.writer.now) (g.W.HostFile.failures c.loop.writer) c.loop.counter read.0
    (left c.next_input.new.reader) c.loop.invariant.read c.loop.invariant.written read.2))

pub returns-in_err-follower-in-Asked-clause-err : goal.returns-in_err-follower-in-Asked-clause-err
returns-in_err-follower-in-Asked-clause-err g c =
    let i = g.I.Installation.goes in
    let left = g.R.HostReader.remaining in
    let s = left c.loop.reader in
    let t = left c.next_input.new.reader in
    let w = g.W.HostWriter.contents c.args.writer.now in
    let x = g.W.HostWriter.contents c.loop.writer in
    let y = g.W.HostWriter.contents c.answer.new.writer in
    let last = c.loop.follower in
    let next = is_next c.in_ok-request.field-0 (nexts.Asked c.in-Asked.request) s t c.in-Asked.is
    c.in_ok-request.ensures.ok in
    let counts = counted (g.R.HostFile.failures c.args.reader.now) (g.R.HostFile.failures c.next_input.new.reader)
    (g.W.HostFile.failures c.args.writer.now) (g.W.HostFile.failures c.answer.new.writer) in
    if_err (IsBrokenOff i c.args.detail c.args.installation (left c.args.reader.now) t w y counts)
    (c.in_err-follower-in-Asked.field-0.0)
    c.from_residual-in_err-follower-in-Asked.result c.from_residual-in_err-follower-in-Asked.ensures.1
    (broken_off i c.loop.counter c.args.detail c.args.installation last next.0 (left c.args.reader.now) s t w x y counts
    c.loop.invariant.so_far next.2 (inr (inl (c.in-Asked.request, next.1, c.in_err-follower-in-Asked.ensures.err)))
    (c.in_err-follower-in-Asked.field-0.0) (wider (λ given. (c.in-Asked.request, next.1, given)) (λ spent. spent)
    c.in_err-follower-in-Asked.field-0.0
    c.in_err-follower-in-Asked.ensures.cause) (output_failed g.row.I.Denot c.in_err-follower-in-Asked.field-0.0
    (g.R.HostFile.failures c.args.reader.now) (g.R.HostFile.failures c.next_input.new.reader)
    (g.W.HostFile.failures c.loop.writer) (g.W.HostFile.failures c.args.writer.now)
    (g.W.HostFile.failures c.answer.new.writer) (IsUnanswerable c.loop.counter next.0 t)
    (c.in_ok-request.ensures.why ∙ c.loop.invariant.read) c.loop.invariant.written
    c.in_err-follower-in-Asked.ensures.why))

pub returns-in_err-close-in-End-clause-err : goal.returns-in_err-close-in-End-clause-err
returns-in_err-close-in-End-clause-err g c =
    let i = g.I.Installation.goes in
    let left = g.R.HostReader.remaining in
    let s = left c.loop.reader in
    let t = left c.next_input.new.reader in
    let w = g.W.HostWriter.contents c.args.writer.now in
    let x = g.W.HostWriter.contents c.loop.writer in
    let y = g.W.HostWriter.contents c.close.new.writer in
    let read = is_next c.in_ok-request.field-0 nexts.End s t c.in-End.is c.in_ok-request.ensures.ok in
    let counts = counted (g.R.HostFile.failures c.args.reader.now) (g.R.HostFile.failures c.next_input.new.reader)
    (g.W.HostFile.failures c.args.writer.now) (g.W.HostFile.failures c.close.new.writer) in
    if_err (IsBrokenOff i c.args.detail c.args.installation (left c.args.reader.now) t w y counts)
    (play_failure c.in_err-close-in-End.field-0.0)
    c.from_residual-in_err-close-in-End.result c.from_residual-in_err-close-in-End.ensures.1
    (broken_off i c.loop.counter c.args.detail c.args.installation c.loop.follower end_line (left c.args.reader.now) s
    t w x y counts c.loop.invariant.so_far read (inr (inr (inl refl, c.in_err-close-in-End.ensures.unwritten)))
    (play_failure c.in_err-close-in-End.field-0.0) (of_play g.row.I.Denot _ _ c.in_err-close-in-End.field-0.0
    (i.is_spent c.loop.follower.world) (i.is_spent c.loop.follower.world) _ _
    (c.in_err-close-in-End.ensures.why (i.is_spent c.loop.follower.world)) (λ spent. spent))
    (end_failed g.row.I.Denot c.in_err-close-in-End.field-0.0 (g.R.HostFile.failures c.args.reader.now)
    (g.R.HostFile.failures c.next_input.new.reader) (g.W.HostFile.failures c.loop.writer)
    (g.W.HostFile.failures c.args.writer.now) (g.W.HostFile.failures c.close.new.writer)
    (IsUnanswerable c.loop.counter end_line t) (c.in_ok-request.ensures.why ∙ c.loop.invariant.read)
    c.loop.invariant.written (c.in_err-close-in-End.ensures.why true)))

pub returns-in_err-close-in-End-clause-why : goal.returns-in_err-close-in-End-clause-why
returns-in_err-close-in-End-clause-why g c =
    let e = c.in_err-close-in-End.field-0.0 in
    why_of (play_failure e) c.from_residual-in_err-close-in-End.result _ _ _ _
    c.from_residual-in_err-close-in-End.ensures.1
    (closed_why g.row.I.Denot e _ _ _ _ _ (c.in_ok-request.ensures.why ∙ c.loop.invariant.read)
    c.loop.invariant.written (c.in_err-close-in-End.ensures.why true))

pub returns-in-End-clause-ok : goal.returns-in-End-clause-ok
returns-in-End-clause-ok g c =
    let i = g.I.Installation.goes in
    let left = g.R.HostReader.remaining in
    let s = left c.loop.reader in
    let t = left c.next_input.new.reader in
    let w = g.W.HostWriter.contents c.args.writer.now in
    let x = g.W.HostWriter.contents c.loop.writer in
    let y = g.W.HostWriter.contents c.close.new.writer in
    let read = is_next c.in_ok-request.field-0 nexts.End s t c.in-End.is c.in_ok-request.ensures.ok in
    followed_to i c.loop.counter c.args.detail c.args.installation c.in_ok-close-in-End.field-0 c.loop.follower end_line
    (left c.args.reader.now) s t w x y c.loop.invariant.so_far c.in_ok-close-in-End.ensures.installation read
    c.in_ok-close-in-End.ensures.unwritten

pub returns-in-End-clause-why : goal.returns-in-End-clause-why
returns-in-End-clause-why g c = (
  c.in_ok-request.ensures.why ∙ c.loop.invariant.read,
  (c.in_ok-close-in-End.ensures.why true).0 ∙ c.loop.invariant.written,
)

pub returns-in_err-close-in-Nothing-clause-err : goal.returns-in_err-close-in-Nothing-clause-err
returns-in_err-close-in-Nothing-clause-err g c =
    let i = g.I.Installation.goes in
    let left = g.R.HostReader.remaining in
    let s = left c.loop.reader in
    let t = left c.next_input.new.reader in
    let w = g.W.HostWriter.contents c.args.writer.now in
    let x = g.W.HostWriter.contents c.loop.writer in
    let y = g.W.HostWriter.contents c.close-in-Nothing.new.writer in
    let read = is_next c.in_ok-request.field-0 nexts.Nothing s t c.in-Nothing.is c.in_ok-request.ensures.ok in
    let counts = counted (g.R.HostFile.failures c.args.reader.now) (g.R.HostFile.failures c.next_input.new.reader)
    (g.W.HostFile.failures c.args.writer.now) (g.W.HostFile.failures c.close-in-Nothing.new.writer) in
    if_err (IsBrokenOff i c.args.detail c.args.installation (left c.args.reader.now) t w y counts)
    (play_failure c.in_err-close-in-Nothing.field-0.0)
    c.from_residual-in_err-close-in-Nothing.result c.from_residual-in_err-close-in-Nothing.ensures.1
    (broken_off i c.loop.counter c.args.detail c.args.installation c.loop.follower [] (left c.args.reader.now) s t w
    x y counts c.loop.invariant.so_far read.0 (inr (inr (inr refl, c.in_err-close-in-Nothing.ensures.unwritten)))
    (play_failure c.in_err-close-in-Nothing.field-0.0) (of_play g.row.I.Denot _ _ c.in_err-close-in-Nothing.field-0.0
    (i.is_spent c.loop.follower.world) (i.is_spent c.loop.follower.world) _ _
    (c.in_err-close-in-Nothing.ensures.why (i.is_spent c.loop.follower.world)) (λ spent. spent))
    (end_failed g.row.I.Denot c.in_err-close-in-Nothing.field-0.0 (g.R.HostFile.failures c.args.reader.now)
    (g.R.HostFile.failures c.next_input.new.reader) (g.W.HostFile.failures c.loop.writer)
    (g.W.HostFile.failures c.args.writer.now) (g.W.HostFile.failures c.close-in-Nothing.new.writer)
    (IsUnanswerable c.loop.counter [] t) (c.in_ok-request.ensures.why ∙ c.loop.invariant.read)
    c.loop.invariant.written (c.in_err-close-in-Nothing.ensures.why true)))

pub returns-in_err-close-in-Nothing-clause-why : goal.returns-in_err-close-in-Nothing-clause-why
returns-in_err-close-in-Nothing-clause-why g c =
    let e = c.in_err-close-in-Nothing.field-0.0 in
    why_of (play_failure e) c.from_residual-in_err-close-in-Nothing.result _ _ _ _
    c.from_residual-in_err-close-in-Nothing.ensures.1
    (closed_why g.row.I.Denot e _ _ _ _ _ (c.in_ok-request.ensures.why ∙ c.loop.invariant.read)
    c.loop.invariant.written (c.in_err-close-in-Nothing.ensures.why true))

pub returns-in-Nothing-clause-ok : goal.returns-in-Nothing-clause-ok
returns-in-Nothing-clause-ok g c =
    let i = g.I.Installation.goes in
    let left = g.R.HostReader.remaining in
    let s = left c.loop.reader in
    let t = left c.next_input.new.reader in
    let w = g.W.HostWriter.contents c.args.writer.now in
    let x = g.W.HostWriter.contents c.loop.writer in
    let y = g.W.HostWriter.contents c.close-in-Nothing.new.writer in
    let read = is_next c.in_ok-request.field-0 nexts.Nothing s t c.in-Nothing.is c.in_ok-request.ensures.ok in (
      followed_to i c.loop.counter c.args.detail c.args.installation c.in_ok-close-in-Nothing.field-0 c.loop.follower []
          (left c.args.reader.now) s t w x y c.loop.invariant.so_far c.in_ok-close-in-Nothing.ensures.installation
          read.0
          c.in_ok-close-in-Nothing.ensures.unwritten,
      read.1,
    )

pub returns-in-Nothing-clause-why : goal.returns-in-Nothing-clause-why
returns-in-Nothing-clause-why g c = (
  c.in_ok-request.ensures.why ∙ c.loop.invariant.read,
  (c.in_ok-close-in-Nothing.ensures.why true).0 ∙ c.loop.invariant.written,
)

pub loop-preserved : goal.loop-preserved
loop-preserved g c =
    let i = g.I.Installation.goes in
    let left = g.R.HostReader.remaining in
    let s = left c.loop.reader in
    let t = left c.next_input.new.reader in
    let w = g.W.HostWriter.contents c.args.writer.now in
    let x = g.W.HostWriter.contents c.loop.writer in
    let y = g.W.HostWriter.contents c.answer.new.writer in
    let old = c.loop.follower in
    let new = c.in_ok-follower-in-Asked.follower in
    let next = is_next c.in_ok-request.field-0 (nexts.Asked c.in-Asked.request) s t c.in-Asked.is
    c.in_ok-request.ensures.ok in
    let reported = c.in_ok-follower-in-Asked.ensures.ok in
    let exchange : Exchange g.row.I.Denot =
    record { read = next.0; request = c.in-Asked.request; answer = reported.0; left = new } in
    let one : IsExchange i old exchange = record { asked = next.1; answered = reported.1 } in
    record {
      so_far = so_far_more i c.loop.counter (at_first i c.args.detail c.args.installation) old
          (left c.args.reader.now) s t w x y exchange c.loop.invariant.so_far one next.2 reported.2;
      detail = c.in_ok-follower-in-Asked.ensures.detail;
      read = c.in_ok-request.ensures.why ∙ c.loop.invariant.read;
      written = c.in_ok-follower-in-Asked.ensures.why ∙ c.loop.invariant.written;
      told = λ _. c.in_ok-follower-in-Asked.ensures.flushed;
    }

pub returns-clause-err : goal.returns-clause-err
returns-clause-err g c =
    let i = g.I.Installation.goes in
    let s = g.R.HostReader.remaining c.loop.reader in
    let w = g.W.HostWriter.contents c.args.writer.now in
    let x = g.W.HostWriter.contents c.loop.writer in
    let counts = counted (g.R.HostFile.failures c.args.reader.now) (g.R.HostFile.failures c.loop.reader)
    (g.W.HostFile.failures c.args.writer.now) (g.W.HostFile.failures c.loop.writer) in
    broken_off i c.loop.counter c.args.detail c.args.installation c.loop.follower []
    (g.R.HostReader.remaining c.args.reader.now) s s w x x counts c.loop.invariant.so_far (Consumes-nil s) (inl refl)
    (failures.File 1) tt
    (λ k e. (let one : k ≡ 1 = cc in inr (one, inr (omega (arith, c.loop-test.false, c.loop.auto.counter-end)))))
