-- A console line as the program takes it, before anything is judged.
use Rattle.std.specs.Prelude.{ℕ, if◌then◌else◌, is_some, List, take, map}
use Rattle.s370_num.specs.Ebcdic.{byte_of}

-- a character that the EBCDIC alphabet does not have becomes a blank
abbrev pub character_of : ℕ → ℕ
character_of c = if is_some (byte_of c) then c else 32

-- a line is cut after its 130th character, and a character that the EBCDIC alphabet does not have
-- becomes a blank
abbrev pub cleaned : List ℕ → List ℕ
cleaned text = map character_of (take 130 text)
