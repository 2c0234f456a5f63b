-- What a line of somebody who is about to log on says.
use Rattle.std.specs.Prelude.{◌-◌, ◌&&◌, ℕ, nat_le, if◌then◌else◌, List, [], ◌∷◌, codes}
use Rattle.std.specs.Str.{bytes_eq}
use Rattle.terminal_lines.specs.declared.words.Said.{Said}
use Rattle.terminal_lines.specs.declared.words.Said.TheVariants.{Both, Name, Word, Other}

-- a letter as a capital
abbrev pub capital : ℕ → ℕ
capital c = if nat_le 97 c && nat_le c 122 then c - 32 else c

-- LOGON and a name, perhaps with the password; or one word, which may be the password
abbrev pub said_by : List (List ℕ) → Said
said_by [] = Other
said_by (first ∷ []) = Word first
said_by (first ∷ name ∷ []) = if bytes_eq first (codes "LOGON") then Name name else Other
said_by (first ∷ name ∷ password ∷ []) =
    if bytes_eq first (codes "LOGON") then Both (record { name = name; password = password }) else Other
said_by (first ∷ name ∷ password ∷ more ∷ rest) = Other
