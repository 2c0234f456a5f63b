-- What users hold by files that they have not closed.
use Rattle.std.specs.Prelude.{ℕ, zero, suc, List, [], ◌∷◌, ◌++◌, codes, length}
use Rattle.std.specs.Fmt.{decimal}
use Rattle.user_names.specs.Users.{name_of}
use Rattle.machine_devices.specs.Devices.{DevicesValue}
use Rattle.sessions.specs.Installed.{Installed, names_of, user_at}

-- the line of a user of this name: the cards of his punch's open file, and the lines of his
-- printer's
abbrev pub holds_line : List ℕ → DevicesValue → List ℕ
holds_line name d = codes "> HOLDS " ++ (name
    ++ (codes " " ++ (decimal (length d.punch.entries)
    ++ (codes " " ++ decimal (length d.printer.entries)))))

-- those of the first so many users, in the order of their numbers
abbrev pub holds_lines : Installed → ℕ → List (List ℕ)
holds_lines s zero = []
holds_lines s (suc user) = holds_lines s user
    ++ holds_line (name_of (names_of s) user) (user_at s user).devices ∷ []
