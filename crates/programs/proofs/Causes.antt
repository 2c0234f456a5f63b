-- Why a session was not played to its end.
use Rattle.std.proofs.Common.{◌≡◌, ℕ, List, Option, Err, refl}
use Rattle.sessions.specs.Installed.{Installation}
use Rattle.sessions.specs.Session.{AccountsFiles, IsRefused}
use Rattle.sessions.specs.declared.faults.SessionError.{SessionError}
use Rattle.sessions.specs.declared.faults.SessionError.TheVariants as ends
use Rattle.programs.specs.Parts.{FailureCounts}
use Rattle.programs.specs.Runs.{IsRefusedFor}

-- The cause of a session's error is that of the run.
pub refused_for : {W : Type 0} (i : Installation W) (e : SessionError) (first : W) (a b : Option (List ℕ))
    (c : FailureCounts) → ((n : ℕ) → e ≡ ends.Line n → IsRefused (i.seen first).users a b n)
    → AccountsFiles (Err e) (i.is_spent first) c.reader_old c.reader_new c.writer_old c.writer_new
    → IsRefusedFor i e first a b c
refused_for i ends.Memory first a b c line why = tt
refused_for i (ends.Line n) first a b c line why = line n refl
refused_for i (ends.Device k) first a b c line why = why
refused_for i ends.Spent first a b c line why = why.2
