-- What users hold, one after another.
use Rattle.std.proofs.Common.{◌≡◌, ◌∙◌, ◌++◌, ◌+◌, ℕ, List, [], ◌∷◌, ap, sym, add-one, refl}
use Rattle.machine_devices.specs.Devices.{DevicesValue}
use Rattle.user_names.specs.Users.{name_of}
use Rattle.sessions.specs.Held.{holds_line, holds_lines}
use Rattle.sessions.specs.Installed.{Installed, names_of, user_at}
use Rattle.sessions.specs.Transcript.{ended}
use Rattle.sessions.proofs.Endings.{ended_append}

-- The line of one user more is appended.
pub held_more : (s : Installed) (user n : ℕ) (before after name : List ℕ) (d : DevicesValue) → user ≡ n
    → before ≡ ended (holds_lines s n) → name ≡ name_of (names_of s) user → d ≡ (user_at s user).devices
    → after ≡ before ++ ended (holds_line name d ∷ []) → after ≡ ended (holds_lines s (n + 1))
held_more s user n before after name d is so_far called has e =
    e ∙ ap (λ (out : List ℕ). out ++ ended (holds_line name d ∷ [])) so_far
    ∙ ap (λ (text : List ℕ). ended (holds_lines s n) ++ ended (holds_line text d ∷ [])) called
    ∙ ap (λ (v : DevicesValue).
    ended (holds_lines s n) ++ ended (holds_line (name_of (names_of s) user) v ∷ [])) has
    ∙ ap (λ (u : ℕ).
    ended (holds_lines s n) ++ ended (holds_line (name_of (names_of s) u) (user_at s u).devices ∷ [])) is
    ∙ sym (ended_append (holds_lines s n) (holds_line (name_of (names_of s) n) (user_at s n).devices ∷ []))
    ∙ sym (rw add-one refl)
