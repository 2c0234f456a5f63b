-- The fields of a line of a volume text (docs/FORMATS.md, "Volume texts").
use Rattle.std.specs.Prelude.{◌≡◌, ℕ, ◌-◌, ◌==◌, ◌&&◌, ◌||◌, Bool, true, if◌then◌else◌, is_some}
use Rattle.std.specs.Prelude.{nat_le, List, [], ◌++◌, length, replicate, codes, Option, Some, None}
use Rattle.std.specs.Prelude.{Result, Ok, Err}
use Rattle.std.specs.List.{list_all}
use Rattle.std.specs.Str.{bytes_eq}
use Rattle.text_words.specs.Numbers.{digit_value, is_digit}
use Rattle.hex.specs.Hex.{decode_of, decode_sized}

-- what a success gives
abbrev pub given : {A E : Type 0} → Result A E → Option A
given (Ok a) = Some a
given (Err e) = None

-- one of `A` to `Z` and `0` to `9`
abbrev pub is_letter_or_digit : ℕ → Bool
is_letter_or_digit c = (nat_le 65 c && nat_le c 90) || is_digit c

-- a serial number is one to six letters and digits
abbrev pub is_serial : List ℕ → Bool
is_serial word = nat_le 1 (length word) && nat_le (length word) 6 && list_all is_letter_or_digit
    word

-- with blanks after it, up to six characters
abbrev pub padded : List ℕ → List ℕ
padded word = word ++ replicate (6 - length word) 32

-- the serial number that a word is
abbrev pub serial_of : List ℕ → Option (List ℕ)
serial_of word = if is_serial word then Some (padded word) else None

-- a hexadecimal digit, `0` to `9` or `A` to `F`
abbrev pub is_hexadecimal : ℕ → Bool
is_hexadecimal c = is_some (digit_value c)

-- five bytes, as ten hexadecimal digits
abbrev pub five_of : List ℕ → Option (List ℕ)
five_of word = if list_all is_hexadecimal word then given (decode_sized word 5) else None

-- bytes, as two hexadecimal digits each
abbrev pub spelled_of : List ℕ → Option (List ℕ)
spelled_of word = if list_all is_hexadecimal word then given (decode_of word) else None

-- the same, where `-` stands for no byte and no word for nothing
abbrev pub bytes_of : List ℕ → Option (List ℕ)
bytes_of word =
    if bytes_eq word (codes "-") then Some []
    else if length word == 0 then None
    else spelled_of word

-- memory is taken for the bytes of a word of hexadecimal digits
abbrev pub TakesMemory : List ℕ → Type 0
TakesMemory word = list_all is_hexadecimal word ≡ true
