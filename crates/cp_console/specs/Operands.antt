-- The operands of commands, each a word.
use Rattle.std.specs.Prelude.{ℕ, ◌+◌, ◌*◌, ◌-◌, ◌^◌, ◌==◌, ◌&&◌, if◌then◌else◌, nat_le, nat_lt}
use Rattle.std.specs.Prelude.{List, [], ◌∷◌, length, Option, Some, None}
use Rattle.std.specs.Option.{option_map, option_and_then}
use Rattle.text_words.specs.Numbers.{digit_value, hexadecimal_of, is_digit, number_from}

-- an address of storage is 1 to 6 hexadecimal digits
abbrev pub address_of : List ℕ → Option ℕ
address_of word = hexadecimal_of 1 6 word

-- the contents of a register, and either half of a PSW, are 8 hexadecimal digits
abbrev pub contents_of : List ℕ → Option ℕ
contents_of word = hexadecimal_of 8 8 word

-- the number of a register is decimal, 0 to 15 without a leading zero
abbrev pub register_of : List ℕ → Option ℕ
register_of [] = None
register_of (units ∷ []) = if is_digit units then Some (units - 48) else None
register_of (tens ∷ units ∷ []) = if (tens == 49) && nat_le 48 units && nat_le units 53
    then Some (units - 38) else None
register_of (a ∷ b ∷ c ∷ more) = None

-- the byte that two hexadecimal digits spell
abbrev pub byte_of : ℕ → ℕ → Option ℕ
byte_of left right = option_and_then
    (λ high. option_map (λ low. high * 16 + low) (digit_value right)) (digit_value left)

-- the bytes that pairs of hexadecimal digits spell
abbrev pub bytes_spelled : List ℕ → Option (List ℕ)
bytes_spelled [] = Some []
bytes_spelled (left ∷ []) = None
bytes_spelled (left ∷ right ∷ digits) =
    option_and_then (λ byte. option_map (λ bytes. byte ∷ bytes) (bytes_spelled digits))
    (byte_of left right)

-- what is stored is 1 to 16 bytes, each of two hexadecimal digits
abbrev pub bytes_of : List ℕ → Option (List ℕ)
bytes_of word = if nat_le 2 (length word) && nat_le (length word) 32 then bytes_spelled word
    else None

-- a device is three hexadecimal digits
abbrev pub device_of : List ℕ → Option ℕ
device_of word = hexadecimal_of 3 3 word

-- a number that a word of 64 bits holds
abbrev pub in_64_bits : ℕ → Option ℕ
in_64_bits n = if nat_lt n (2 ^ 64) then Some n else None

-- the number of a file is decimal, with any leading zeros, and below 2^64
abbrev pub file_of : List ℕ → Option ℕ
file_of [] = None
file_of (c ∷ cs) = option_and_then in_64_bits (number_from 0 (c ∷ cs))
