-- Names and passwords: words of letters and digits.
use Rattle.std.specs.Prelude.{ℕ, ◌&&◌, ◌||◌, Bool, not, nat_le, List, length, codes, slice_index}
use Rattle.std.specs.List.{list_all}
use Rattle.std.specs.Str.{bytes_eq}
use Rattle.text_words.specs.Numbers.{is_digit}

-- one of `A` to `Z`
abbrev pub is_letter : ℕ → Bool
is_letter c = nat_le 65 c && nat_le c 90

-- one of `A` to `Z` and `0` to `9`
abbrev pub is_letter_or_digit : ℕ → Bool
is_letter_or_digit c = is_letter c || is_digit c

-- one to eight letters and digits, as a password is
abbrev pub is_short_word : List ℕ → Bool
is_short_word word = nat_le 1 (length word) && nat_le (length word) 8 && list_all is_letter_or_digit
    word

-- a name is such a word that begins with a letter and is not `SYSTEM`
abbrev pub is_name : List ℕ → Bool
is_name word = is_short_word word && is_letter (slice_index word 0) && not (bytes_eq word (codes "SYSTEM"))
