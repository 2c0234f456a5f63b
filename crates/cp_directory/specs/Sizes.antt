-- Sizes of storage.
use Rattle.std.specs.Prelude.{ℕ, ◌+◌, ◌-◌, ◌*◌, ◌/◌, ◌%◌, ◌==◌, ◌&&◌, Bool, false, not}
use Rattle.std.specs.Prelude.{if◌then◌else◌, nat_le, List, [], ◌∷◌, length, take, slice_index}
use Rattle.std.specs.Prelude.{Option, Some, None}
use Rattle.std.specs.Option.{option_map, option_and_then}
use Rattle.std.specs.List.{list_all}
use Rattle.text_words.specs.Numbers.{is_digit}

-- the number that these digits spell, however many, after those that spell n
abbrev pub number : ℕ → List ℕ → ℕ
number n [] = n
number n (c ∷ cs) = number (n * 10 + (c - 48)) cs

-- one or more digits, of which the first is not `0`
abbrev pub is_number : List ℕ → Bool
is_number [] = false
is_number (c ∷ cs) = not (c == 48) && list_all is_digit (c ∷ cs)

-- the kilobytes of a unit: `K` is one, `M` is 1024 of them
abbrev pub unit_of : ℕ → Option ℕ
unit_of letter = if letter == 75 then Some 1 else if letter == 77 then Some 1024 else None

-- so many units, where the digits are a number
abbrev pub kilobytes_by : List ℕ → ℕ → Option ℕ
kilobytes_by digits letter = if is_number digits
    then option_map (λ unit. number 0 digits * unit) (unit_of letter) else None

-- the kilobytes that a word spells: a number and then the letter of a unit
abbrev pub kilobytes_of : List ℕ → Option ℕ
kilobytes_of word = kilobytes_by (take (length word - 1) word) (slice_index word (length word - 1))

-- a storage has whole pages of 4K, from 8K to 4096K
abbrev pub is_size : ℕ → Bool
is_size kilobytes = kilobytes % 4 == 0 && nat_le 8 kilobytes && nat_le kilobytes 4096

-- the pages of so many kilobytes, where a storage may have them
abbrev pub pages_of : ℕ → Option ℕ
pages_of kilobytes = if is_size kilobytes then Some (kilobytes / 4) else None

-- the pages of the storage that a word spells, where there may be one
abbrev pub storage_of : List ℕ → Option ℕ
storage_of word = option_and_then pages_of (kilobytes_of word)
