use Rattle.std.proofs.Common.{◌≡◌, ℕ, Bool, Err, Ok, Result, List, true, refl, inl, inr, map, length, ap, sym, subst}
use Rattle.std.proofs.Common.{◌∙◌}
use Rattle.std.specs.Prelude.{IsErrAnd}
use Rattle.cp_dispatch.specs.Policy.{Lines}
use Rattle.session_script.specs.Script.{IsRefusal, EventValue, said}
use Rattle.session_script.specs.declared.reader.ScriptError.{ScriptError}
use Rattle.session_script.specs.declared.reader.ScriptError.TheVariants as refusals
use Rattle.sessions.specs.Schedule.{IsOf, first_line, first_lines, scene}
use Rattle.s370_num.specs.Host.{IsCounted}
use Rattle.s370_num.specs.declared.host.HostFault.TheVariants as faults
use Rattle.sessions.specs.Session.{Accounts, AccountsFiles, IsRead, play_error, refusal_error}
use Rattle.sessions.specs.declared.faults.PlayError.{PlayError}
use Rattle.sessions.specs.declared.faults.PlayError.TheVariants as errors
use Rattle.sessions.specs.declared.faults.SessionError.{SessionError}
use Rattle.sessions.specs.declared.faults.SessionError.TheVariants as ends
use Rattle.sessions.specs.declared.schedule.Detail.TheVariants.{Whole}
use Rattle.sessions.proofs.Histories.{on_err}
use Rattle.sessions.proofs.Stated.{first_dealing}
use Rattle.sessions.proofs.Sessions.{cut, cut_short, whole}
use Rattle.sessions.proofs.session.session.Goals as goal

-- the line that is reported is the script's
line_told : {A : Type 0} (script : Result (List EventValue) ℕ) (why : ScriptError) (r : Result A SessionError) (n : ℕ)
    → IsRefusal script why → IsErrAnd r (λ e. e ≡ refusal_error why) → r ≡ Err (ends.Line n) → script ≡ Err n
line_told script why (Ok a) n f h e = cc
line_told script refusals.Memory (Err x) n f h e = cc
line_told script (refusals.Line k) (Err x) n f h e = let same : k ≡ n = cc in f ∙ ap Err same

-- what the last part of a transcript comes to is what the session comes to
closed_why : (e : PlayError) (was : Bool) (r s w x y : ℕ) → s ≡ r → x ≡ w → Accounts {A = Unit {0}} (Err e) was was x y
    → AccountsFiles (Err (play_error e)) was r s w y
closed_why errors.Memory was r s w x y a b h = (a, h ∙ b)
closed_why (errors.Device k) was r s w x y a b h = inr (a, subst (λ (n : ℕ). IsCounted n y (faults.Device k)) b h)
closed_why errors.Spent was r s w x y a b h = (a, h.0 ∙ b, h.1)

why_told : (e : PlayError) (result : Result (Unit {0}) SessionError) (was : Bool) (r s w y : ℕ)
    → IsErrAnd result (λ x. x ≡ play_error e) → AccountsFiles (Err (play_error e)) was r s w y
    → AccountsFiles result was r s w y
why_told e (Ok a) was r s w y f h = absurd f
why_told e (Err x) was r s w y f h = subst (λ (z : SessionError). AccountsFiles (Err z) was r s w y) (sym f) h

pub returns-in_err-events-clause-line : goal.returns-in_err-events-clause-line
returns-in_err-events-clause-line g c = λ n e.
    let fault = rw c.deref.ensures.value at c.in_err-events.ensures.err in
    record {
      text = c.in_ok-text.text.items;
      read = record { given = c.in_ok-text.ensures.ok; end = c.in_ok-text.ensures.end };
      refused = line_told _ c.in_err-events.field-0.0 c.from_residual-in_err-events.result n fault
          c.from_residual-in_err-events.ensures.1 e;
    }

pub play-requires-clause-dealing : goal.play-requires-clause-dealing
play-requires-clause-dealing g c =
    let seen = g.I.Installation.goes.seen c.args.installation.now in
    subst (IsOf seen) (sym c.in_ok-policy.ensures) (first_dealing seen)

pub returns-in_err-play-clause-err : goal.returns-in_err-play-clause-err
returns-in_err-play-clause-err g c =
    let accepted = rw c.deref.ensures.value at c.in_ok-events.ensures.ok in
    let partly = rw c.deref-2.ensures.value at c.in_err-play.ensures.err in
    let read : IsRead (g.R.HostReader.remaining c.args.reader.now) (g.R.HostReader.remaining c.read_all.new.reader)
    c.in_ok-text.text.items = record { given = c.in_ok-text.ensures.ok; end = c.in_ok-text.ensures.end } in
    on_err c.from_residual-in_err-play.result
    (inr (cut g.I.Installation.goes Whole c.in_ok-text.text.items (map said c.in_ok-events.events.items)
    c.args.installation.now c.play.new.installation c.in_ok-policy.policy _ _ _ _ read accepted
    c.in_ok-policy.ensures partly))

pub returns-in_err-close-clause-err : goal.returns-in_err-close-clause-err
returns-in_err-close-clause-err g c =
    let accepted = rw c.deref.ensures.value at c.in_ok-events.ensures.ok in
    let played = rw c.deref-2.ensures.value at c.in_ok-play.ensures.ok in
    let last = scene c.play.new.installation c.play.new.policy Whole in
    let read : IsRead (g.R.HostReader.remaining c.args.reader.now) (g.R.HostReader.remaining c.read_all.new.reader)
    c.in_ok-text.text.items = record { given = c.in_ok-text.ensures.ok; end = c.in_ok-text.ensures.end } in
    on_err c.from_residual-in_err-close.result
    (inr (cut_short g.I.Installation.goes Whole c.in_ok-text.text.items (map said c.in_ok-events.events.items)
    c.args.installation.now c.in_ok-policy.policy last _ _ _ _ _ read accepted c.in_ok-policy.ensures played
    c.in_err-close.ensures.err))

pub returns-clause-ok : goal.returns-clause-ok
returns-clause-ok g c =
    let accepted = rw c.deref.ensures.value at c.in_ok-events.ensures.ok in
    let played = rw c.deref-2.ensures.value at c.in_ok-play.ensures.ok in
    let last = scene c.play.new.installation c.play.new.policy Whole in
    let read : IsRead (g.R.HostReader.remaining c.args.reader.now) (g.R.HostReader.remaining c.read_all.new.reader)
    c.in_ok-text.text.items = record { given = c.in_ok-text.ensures.ok; end = c.in_ok-text.ensures.end } in
    whole g.I.Installation.goes Whole c.in_ok-text.text.items (map said c.in_ok-events.events.items)
    c.args.installation.now c.in_ok-policy.policy last _ _ _ _ _ read accepted c.in_ok-policy.ensures played
    c.in_ok-close.ensures.ok

pub returns-clause-why : goal.returns-clause-why
returns-clause-why g c =
    (c.in_ok-text.ensures.counts, (c.in_ok-close.ensures.why true).0 ∙ c.in_ok-play.ensures.why.0)

pub returns-in_err-close-clause-why : goal.returns-in_err-close-clause-why
returns-in_err-close-clause-why g c =
    let was = g.I.Installation.goes.is_spent c.args.installation.now in
    let reported = closed_why c.in_err-close.field-0.0 was _ _ _ _ _ c.in_ok-text.ensures.counts
    c.in_ok-play.ensures.why.0 (c.in_err-close.ensures.why was) in
    why_told c.in_err-close.field-0.0 c.from_residual-in_err-close.result was _ _ _ _
    c.from_residual-in_err-close.ensures.1 reported
