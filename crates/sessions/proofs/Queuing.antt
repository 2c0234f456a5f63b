-- The decks of all users' readers, one reader after another.
use Rattle.std.proofs.Common.{◌≡◌, ◌∙◌, ◌++◌, ◌+◌, ℕ, List, ap, sym, add-one, refl}
use Rattle.sessions.specs.Installed.{Installed}
use Rattle.sessions.specs.Readers.{lines_at, reader_lines}
use Rattle.sessions.specs.Transcript.{ended}
use Rattle.sessions.proofs.Endings.{ended_append}

-- The lines of one user more are appended.
pub readers_more : (s : Installed) (user n : ℕ) (before after : List ℕ) → user ≡ n
    → before ≡ ended (reader_lines s n) → after ≡ before ++ ended (lines_at s user)
    → after ≡ ended (reader_lines s (n + 1))
readers_more s user n before after is so_far e =
    e ∙ ap (λ (out : List ℕ). out ++ ended (lines_at s user)) so_far
    ∙ ap (λ (u : ℕ). ended (reader_lines s n) ++ ended (lines_at s u)) is
    ∙ sym (ended_append (reader_lines s n) (lines_at s n))
    ∙ sym (rw add-one refl)
