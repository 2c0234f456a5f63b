-- Pairs of hexadecimal digits, one after another.
use Rattle.std.proofs.Common.{◌≡◌, ℕ, ◌-◌, ◌≤◌, List, [], ◌∷◌, ◌++◌, length, take, drop, get_or, Option, Some}
use Rattle.std.proofs.Common.{None, refl, ap, sym, ◌∙◌, arith}
use Rattle.std.proofs.lemmas.List.{append_assoc, take_rest}
use Rattle.std.specs.Option.{option_and_then, option_map}
use Rattle.logon_desk_cli.specs.Read.{byte_of, pairs_of}

pair-first : (bytes : List ℕ) (byte : ℕ) (more : Option (List ℕ))
    → option_map (λ (rest : List ℕ). bytes ++ rest) (option_map (λ (rest : List ℕ). byte ∷ rest) more)
    ≡ option_map (λ (rest : List ℕ). (bytes ++ byte ∷ []) ++ rest) more
pair-first bytes byte None = refl
pair-first bytes byte (Some more) = ap (λ (all : List ℕ). Some all) (sym (append_assoc bytes (byte ∷ []) more))

-- the digits after the first two
after-two : (high low : ℕ) (more : List ℕ) → take (length (high ∷ low ∷ more) - 2) (drop 2 (high ∷ low ∷ more)) ≡ more
after-two high low more = take_rest (high ∷ low ∷ more) 2

-- A pair of digits that is read is one more byte.
pub pairs-more : (digits rest bytes pushed : List ℕ) (byte : ℕ) → 2 ≤ length rest
    → byte_of (get_or rest 0 0) (get_or rest 1 0) ≡ Some byte → pushed ≡ bytes ++ byte ∷ []
    → pairs_of digits ≡ option_map (λ (more : List ℕ). bytes ++ more) (pairs_of rest)
    → pairs_of digits ≡ option_map (λ (more : List ℕ). pushed ++ more) (pairs_of (take (length rest - 2) (drop 2 rest)))
pairs-more digits [] bytes pushed byte two is push so-far = absurd (omega arith)
pairs-more digits (high ∷ []) bytes pushed byte two is push so-far = absurd (omega arith)
pairs-more digits (high ∷ low ∷ more) bytes pushed byte two is push so-far =
    so-far
    ∙ ap (λ (first : Option ℕ). option_map (λ (all : List ℕ). bytes ++ all)
    (option_and_then (λ (b : ℕ). option_map (λ (all : List ℕ). b ∷ all) (pairs_of more)) first)) is
    ∙ pair-first bytes byte (pairs_of more)
    ∙ ap (λ (front : List ℕ). option_map (λ (all : List ℕ). front ++ all) (pairs_of more)) (sym push)
    ∙ ap (λ (left : List ℕ). option_map (λ (all : List ℕ). pushed ++ all) (pairs_of left))
    (sym (after-two high low more))
