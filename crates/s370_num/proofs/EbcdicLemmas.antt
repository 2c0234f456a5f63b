-- A byte and a character of the alphabet determine each other.
use Rattle.std.proofs.Common.{◌≡◌, ℕ, ◌==◌, Bool, true, false, ◌&&◌, cond, nat_eq, List, [], ◌∷◌, Option, Some, None}
use Rattle.std.proofs.Common.{eqb-true, refl, ap, sym, ◌∙◌}
use Rattle.std.specs.Prelude.{find, unwrap_or, IsSome}
use Rattle.std.specs.List.{list_all}
use Rattle.std.specs.Option.{option_eq, option_map}
use Rattle.s370_num.specs.Ebcdic.{Graphic, alphabet, character_of, byte_of, printable_of}

chosen : {X : Type 0} (p q : X → Bool) (y x : X) (ys : List X) (b c : Bool) → p y ≡ b → q y ≡ c
    → (c && list_all q ys) ≡ true → cond b (Some y) (find p ys) ≡ Some x
    → (list_all q ys ≡ true → find p ys ≡ Some x → (p x ≡ true) × (q x ≡ true)) → (p x ≡ true) × (q x ≡ true)
chosen p q y x ys true true is_p is_q all found later = let same : y ≡ x = cc in (cc, cc)
chosen p q y x ys false true is_p is_q all found later = later all found
chosen p q y x ys b false is_p is_q all found later = (cc, cc)

-- what is found passes the test, and the test that all pass
find_passes : {X : Type 0} (p q : X → Bool) (xs : List X) (x : X) → list_all q xs ≡ true → find p xs ≡ Some x
    → (p x ≡ true) × (q x ≡ true)
find_passes p q [] x all found = (cc, cc)
find_passes p q (y ∷ ys) x all found = chosen p q y x ys (p y) (q y) refl refl all found (find_passes p q ys x)

is_same : (o : Option ℕ) (x : ℕ) → option_eq nat_eq o (Some x) ≡ true → o ≡ Some x
is_same None x same = cc
is_same (Some y) x same = ap Some (eqb-true y x same)

-- this graphic alone has its byte, and it alone has its character
abbrev is_alone : Graphic → Bool
is_alone graphic =
    option_eq nat_eq (character_of graphic.byte) (Some graphic.character)
    && option_eq nat_eq (byte_of graphic.character) (Some graphic.byte)

all_alone : list_all is_alone alphabet ≡ true
unfolding alphabet
all_alone = refl

both : (a b : Bool) → (a && b) ≡ true → (a ≡ true) × (b ≡ true)
both true b h = (refl, h)
both false b h = cc

-- a graphic that is in the alphabet is found by its byte and by its character
found_by_both : (graphic : Graphic) → is_alone graphic ≡ true → (character_of graphic.byte ≡ Some graphic.character)
    × (byte_of graphic.character ≡ Some graphic.byte)
found_by_both graphic alone =
    let parts = both (option_eq nat_eq (character_of graphic.byte) (Some graphic.character))
    (option_eq nat_eq (byte_of graphic.character) (Some graphic.byte)) alone in (
      is_same (character_of graphic.byte) graphic.character parts.0,
      is_same (byte_of graphic.character) graphic.byte parts.1,
    )

read_graphic : (character byte : ℕ) (found : Option Graphic)
    → find (λ graphic. graphic.character == character) alphabet ≡ found
    → option_map (λ graphic. graphic.byte) found ≡ Some byte → character_of byte ≡ Some character
read_graphic character byte None is gives = cc
read_graphic character byte (Some graphic) is gives =
    let passes = find_passes (λ graphic. graphic.character == character) is_alone alphabet graphic all_alone is in
    let there = found_by_both graphic passes.1 in
    let named : graphic.character ≡ character = eqb-true graphic.character character passes.0 in
    let placed : graphic.byte ≡ byte = cc in
    let P : ℕ → ℕ → Type 0 = λ b c. character_of b ≡ Some c in
    ap character_of (sym placed) ∙ there.0 ∙ ap Some named

-- a character's byte stands for that character
pub character_of-byte_of : (character byte : ℕ) → byte_of character ≡ Some byte → character_of byte ≡ Some character
character_of-byte_of character byte gives = read_graphic character byte
    (find (λ graphic. graphic.character == character) alphabet) refl gives

written_graphic : (byte character : ℕ) (found : Option Graphic)
    → find (λ graphic. graphic.byte == byte) alphabet ≡ found
    → option_map (λ graphic. graphic.character) found ≡ Some character → byte_of character ≡ Some byte
written_graphic byte character None is gives = cc
written_graphic byte character (Some graphic) is gives =
    let passes = find_passes (λ graphic. graphic.byte == byte) is_alone alphabet graphic all_alone is in
    let there = found_by_both graphic passes.1 in
    let placed : graphic.byte ≡ byte = eqb-true graphic.byte byte passes.0 in
    let named : graphic.character ≡ character = cc in
    ap byte_of (sym named) ∙ there.1 ∙ ap Some placed

-- the byte of a byte's character is that byte
pub byte_of-character_of : (byte character : ℕ) → character_of byte ≡ Some character → byte_of character ≡ Some byte
byte_of-character_of byte character gives = written_graphic byte character
    (find (λ graphic. graphic.byte == byte) alphabet) refl gives

-- what was written is read back
pub printable_of-byte_of : (character byte : ℕ) → byte_of character ≡ Some byte → printable_of byte ≡ character
printable_of-byte_of character byte gives = rw (character_of-byte_of character byte gives) refl

written_back : (byte : ℕ) (known : Option ℕ) → character_of byte ≡ known → IsSome known
    → byte_of (unwrap_or known 46) ≡ Some byte
written_back byte None is there = cc
written_back byte (Some character) is there = byte_of-character_of byte character is

-- what was read is written back
pub byte_of-printable_of : (byte : ℕ) → IsSome (character_of byte) → byte_of (printable_of byte) ≡ Some byte
byte_of-printable_of byte there = written_back byte (character_of byte) refl there

-- no character has the byte 0
pub byte_of-not_zero : (character : ℕ) → byte_of character ≡ Some 0 → ⊥
unfolding alphabet
byte_of-not_zero character gives = let read = character_of-byte_of character 0 gives in cc

-- A byte that no character has is zero in the table.
pub byte_of_zero : (known : Option ℕ) → (known ≡ Some 0 → ⊥) → unwrap_or known 0 ≡ 0 → None ≡ known
byte_of_zero None never is = refl
byte_of_zero (Some byte) never is = absurd (never (ap Some is))

-- A byte other than zero in the table is the character's.
pub byte_of_other : (known : Option ℕ) (byte : ℕ) → byte ≡ unwrap_or known 0 → (byte ≡ 0 → ⊥) → Some byte ≡ known
byte_of_other None byte is other = absurd (other is)
byte_of_other (Some there) byte is other = ap Some is
