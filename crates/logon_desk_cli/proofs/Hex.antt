-- Bytes in hexadecimal, one after another.
use Rattle.std.proofs.Common.{◌≡◌, ℕ, ◌+◌, ◌/◌, ◌%◌, ◌<◌, List, [], ◌∷◌, ◌++◌, length, take, get_or, refl, ap, ◌∙◌}
use Rattle.std.proofs.lemmas.List.{take_more}
use Rattle.logon_desk_cli.specs.Printed.{field, hex, hex_digit}

pub hex-append : (first second : List ℕ) → hex (first ++ second) ≡ hex first ++ hex second
hex-append [] second = refl
hex-append (byte ∷ bytes) second =
    ap (λ (rest : List ℕ). hex_digit (byte / 16) ∷ hex_digit (byte % 16) ∷ rest) (hex-append bytes second)

-- One more byte has two more digits.
pub hex-take : (bytes : List ℕ) (i : ℕ) → i < length bytes
    → hex (take (i + 1) bytes) ≡ hex (take i bytes) ++ hex_digit (get_or bytes i 0 / 16)
    ∷ hex_digit (get_or bytes i 0 % 16) ∷ []
hex-take bytes i inside = ap hex (take_more bytes i 0 inside) ∙ hex-append (take i bytes) (get_or bytes i 0 ∷ [])

-- where one of the two is not empty
pub field-both : (first second : List ℕ) → (length first ≡ 0 → length second ≡ 0 → ⊥)
    → field (first ++ second) ≡ 32 ∷ hex first ++ hex second
field-both [] [] some = absurd (some refl refl)
field-both [] (byte ∷ bytes) some = refl
field-both (byte ∷ bytes) second some = ap (λ (rest : List ℕ). 32 ∷ rest) (hex-append (byte ∷ bytes) second)
