-- EBCDIC: the graphics that consoles, printers and cards share, and what is printed for the other
-- bytes.
use Rattle.std.specs.Prelude.{ℕ, ◌+◌, ◌==◌, List, [], ◌∷◌, ◌++◌, Option, find, unwrap_or, codes}
use Rattle.std.specs.Option.{option_map}

-- a graphic: a byte, and the character in ASCII that it stands for
pub record Graphic : Type 0 where
  pub byte : ℕ
  pub character : ℕ

-- these characters, in their order, from this byte on
abbrev pub graphics_from : ℕ → List ℕ → List Graphic
graphics_from byte [] = []
graphics_from byte (character ∷ characters) =
    record { byte = byte; character = character } ∷ graphics_from (byte + 1) characters

-- the whole alphabet: letters, digits, the blank and the signs
unfoldable pub alphabet : List Graphic
alphabet =
    graphics_from 0xC1 (codes "ABCDEFGHI")
    ++ graphics_from 0xD1 (codes "JKLMNOPQR")
    ++ graphics_from 0xE2 (codes "STUVWXYZ")
    ++ graphics_from 0x81 (codes "abcdefghi")
    ++ graphics_from 0x91 (codes "jklmnopqr")
    ++ graphics_from 0xA2 (codes "stuvwxyz")
    ++ graphics_from 0xF0 (codes "0123456789")
    ++ graphics_from 0x40 (codes " ")
    ++ graphics_from 0x4B (codes ".<(+")
    ++ graphics_from 0x50 (codes "&")
    ++ graphics_from 0x5B (codes "$*);")
    ++ graphics_from 0x60 (codes "-/")
    ++ graphics_from 0x6B (codes ",%_>?")
    ++ graphics_from 0x7A (codes ":#@'=\"")

-- the character that a byte stands for, where it has one
abbrev pub character_of : ℕ → Option ℕ
character_of byte = option_map (λ graphic. graphic.character)
    (find (λ graphic. graphic.byte == byte) alphabet)

-- the byte of a character, where it has one
abbrev pub byte_of : ℕ → Option ℕ
byte_of character = option_map (λ graphic. graphic.byte)
    (find (λ graphic. graphic.character == character) alphabet)

-- a full stop
abbrev pub full_stop : ℕ
full_stop = 46

-- what is printed for a byte: its character, or a full stop where it has none
abbrev pub printable_of : ℕ → ℕ
printable_of byte = unwrap_or (character_of byte) full_stop
