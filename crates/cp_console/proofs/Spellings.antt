-- Bytes spelled by pairs of digits.
use Rattle.std.proofs.Common.{◌≡◌, ℕ, List, [], ◌∷◌, ◌++◌, Option, Some, None, refl, ap, sym, append_assoc}
use Rattle.std.specs.Option.{option_map}
use Rattle.cp_console.specs.Operands.{byte_of, bytes_spelled}

joined : (front : List ℕ) (byte : ℕ) (o : Option (List ℕ))
    → option_map (λ more. front ++ more) (option_map (λ bytes. byte ∷ bytes) o)
    ≡ option_map (λ more. (front ++ byte ∷ []) ++ more) o
joined front byte None = refl
joined front byte (Some bytes) = ap Some (sym (append_assoc front (byte ∷ []) bytes))

-- the byte of the first two digits joins those before it
pub spelled_more : (front : List ℕ) (left right byte : ℕ) (digits rest : List ℕ) → digits ≡ left ∷ right ∷ rest
    → byte_of left right ≡ Some byte
    → option_map (λ more. front ++ more) (bytes_spelled digits)
    ≡ option_map (λ more. (front ++ byte ∷ []) ++ more) (bytes_spelled rest)
spelled_more front left right byte digits rest spelled read =
    rw (spelled, read) (joined front byte (bytes_spelled rest))
