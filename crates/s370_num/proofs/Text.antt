-- What the holes of a format write for bytes as hexadecimal digits.
use Rattle.std.proofs.Common.{◌≡◌, ℕ, ◌-◌, ◌/◌, ◌%◌, ◌^◌, ◌<◌, ◌≤◌, inl, inr, nat_lt, true, false, Option, Some, List}
use Rattle.std.proofs.Common.{[], ◌∷◌, if◌then◌else◌, refl, arith}
use Rattle.std.proofs.lemmas.Bool.{cases_lt}
use Rattle.std.proofs.lemmas.Bool.Decides.{nat_tests}
use Rattle.std.proofs.lemmas.Fmt.{hex_one_digit, hex_two_digits, hex_byte}
use Rattle.std.specs.Fmt.{digits, padded_integral, format_spec, ◌++?◌}
use Rattle.s370_num.specs.Address.{two_digits, digit_of, address_text, word_text, device_text}

-- a hole `{:02X}`
abbrev byte_hole : ℕ → List ℕ
byte_hole n = padded_integral (format_spec 32 0 4 2 (2 ^ 64 - 1)) false [] (digits 16 true n)

byte_shown : (n : ℕ) → n < 256 → byte_hole n ≡ two_digits n
byte_shown n small = hex_byte true n small

channel_shown : (n : ℕ) → n < 2 ^ 16 → digits 16 true (n / 256) ≡
    (if nat_lt n 4096 then digit_of (n / 256) ∷ [] else two_digits (n / 256))
channel_shown n small =
    elim (cases_lt n 4096) [
      | inl below ↦ let one : n / 256 < 16 = omega arith in rw (hex_one_digit true (n / 256) one)
          (grind (arith, nat_tests))
      | inr above ↦ let two : 16 ≤ n / 256 = omega arith in let byte : n / 256 < 256 = omega arith in
          rw (hex_two_digits true (n / 256) two byte) (grind (arith, nat_tests))
    ]

-- The text of a device address is its channel and its unit.
pub device_shown : (channel unit : Option (List ℕ)) (n : ℕ) → n < 2 ^ 16 → channel ≡ Some (digits 16 true (n / 256))
    → unit ≡ Some (byte_hole (n % 256)) → (channel ++? unit) ≡ Some (device_text n)
device_shown channel unit n small c u =
    let byte : n % 256 < 256 = omega arith in
    rw (c, u, channel_shown n small, byte_shown (n % 256) byte) refl

-- The text of an address is its three bytes.
pub address_shown : (first second third : Option (List ℕ)) (n : ℕ) → n < 2 ^ 24 → first ≡ Some (byte_hole (n / 65536))
    → second ≡ Some (byte_hole (n / 256 % 256)) → third ≡ Some (byte_hole (n % 256))
    → (first ++? (second ++? third)) ≡ Some (address_text n)
address_shown first second third n small f s t =
    let high : n / 65536 < 256 = omega arith in
    let middle : n / 256 % 256 < 256 = omega arith in
    let low : n % 256 < 256 = omega arith in
    rw (f, s, t, byte_shown (n / 65536) high, byte_shown (n / 256 % 256) middle, byte_shown (n % 256) low) refl

-- The text of a word is its four bytes.
pub word_shown : (first second third fourth : Option (List ℕ)) (n : ℕ) → n < 2 ^ 32
    → first ≡ Some (byte_hole (n / 16777216))
    → second ≡ Some (byte_hole (n / 65536 % 256)) → third ≡ Some (byte_hole (n / 256 % 256))
    → fourth ≡ Some (byte_hole (n % 256))
    → (first ++? (second ++? (third ++? fourth))) ≡ Some (word_text n)
word_shown first second third fourth n small f s t l =
    let highest : n / 16777216 < 256 = omega arith in
    let high : n / 65536 % 256 < 256 = omega arith in
    let middle : n / 256 % 256 < 256 = omega arith in
    let low : n % 256 < 256 = omega arith in
    rw (
      f,
      s,
      t,
      l,
      byte_shown (n / 16777216) highest,
      byte_shown (n / 65536 % 256) high,
      byte_shown (n / 256 % 256) middle,
      byte_shown (n % 256) low,
    ) refl
