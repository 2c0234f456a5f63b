-- The decks of all users' readers.
use Rattle.std.specs.Prelude.{ℕ, zero, suc, List, [], ◌++◌}
use Rattle.user_names.specs.Users.{name_of}
use Rattle.sessions.specs.Installed.{Installed, names_of, user_at}
use Rattle.sessions.specs.Transcript.{queue_lines}

-- the lines that `QUERY FILES` shows a user
abbrev pub lines_at : Installed → ℕ → List (List ℕ)
lines_at s user = let names = names_of s in
    queue_lines names (name_of names user) (user_at s user).devices.reader.decks

-- those of the first so many users, in the order of their numbers
abbrev pub reader_lines : Installed → ℕ → List (List ℕ)
reader_lines s zero = []
reader_lines s (suc user) = reader_lines s user ++ lines_at s user
