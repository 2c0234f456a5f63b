-- Values as bytes. No value's bytes begin another's, so bytes are those of one value.
use Rattle.std.specs.Prelude.{ℕ, ◌/◌, ◌%◌, ◌≡◌, Bool, true, false, List, [], ◌∷◌, ◌++◌, length}
use Rattle.std.specs.Prelude.{Option, Some, None}

-- eight bytes, the greatest first
unfoldable pub number : ℕ → List ℕ
number n =
    n / 72057594037927936 ∷ n / 281474976710656 % 256 ∷ n / 1099511627776 % 256 ∷ n / 4294967296 %
    256
    ∷ n / 16777216 % 256 ∷ n / 65536 % 256 ∷ n / 256 % 256 ∷ n % 256 ∷ []

abbrev pub flag : Bool → List ℕ
flag false = 0 ∷ []
flag true = 1 ∷ []

-- how many they are, and these
abbrev pub bytes : List ℕ → List ℕ
bytes list = number (length list) ++ list

-- whether there is one, and that
abbrev pub optional : {A : Type 0} → (A → List ℕ) → Option A → List ℕ
optional code None = 0 ∷ []
optional code (Some a) = 1 ∷ code a

-- 1 before each, and 0 after the last
abbrev pub each : {A : Type 0} → (A → List ℕ) → List A → List ℕ
each code [] = 0 ∷ []
each code (a ∷ list) = 1 ∷ (code a ++ each code list)

-- one after the other
abbrev pub both : {A B : Type 0} → (A → List ℕ) → (B → List ℕ) → A × B → List ℕ
both one other (a, b) = one a ++ other b

-- the same value, and the same bytes after it
pub record Same {A : Type 0} (a b : A) (x y : List ℕ) : Type 0 where
  pub this : a ≡ b
  pub rest : x ≡ y

-- no value's bytes begin another's
abbrev pub IsCode : {A : Type 0} → (A → List ℕ) → Type 0
IsCode {A} code = (a b : A) (x y : List ℕ) → code a ++ x ≡ code b ++ y → Same a b x y
