-- Texts that are added one after the other.
use Rattle.std.specs.Prelude.{ℕ, zero, suc, ◌-◌, ◌≤◌, ◌≡◌, refl, List, [], ◌∷◌, ◌++◌, decimal, length, replicate, take}
use Rattle.std.proofs.Common.{◌∙◌, ap, arith}
use Rattle.std.proofs.lemmas.List.{append_assoc}

-- Three parts that are appended one after another are appended at once.
pub three : (t a b c : List ℕ) → t ++ a ++ b ++ c ≡ t ++ (a ++ b ++ c)
three t a b c = ap (λ l. l ++ c) (append_assoc t a b) ∙ append_assoc t (a ++ b) c

-- Four parts that are appended one after another are appended at once.
pub four : (t a b c d : List ℕ) → t ++ a ++ b ++ c ++ d ≡ t ++ (a ++ b ++ c ++ d)
four t a b c d = ap (λ l. l ++ d) (three t a b c) ∙ append_assoc t (a ++ b ++ c) d

-- a word, a number, what is between, and a word
pub counted : (t a b c d : List ℕ) → t ++ (a ++ b) ++ c ++ d ≡ t ++ (a ++ (b ++ (c ++ d)))
counted t a b c d =
    append_assoc (t ++ (a ++ b)) c d ∙ (append_assoc t (a ++ b) (c ++ d) ∙ ap (λ l. t ++ l) (append_assoc a b (c ++ d)))

-- Four parts are appended to a text in either grouping.
pub closed : (t a b c d : List ℕ) → t ++ a ++ b ++ c ++ d ≡ t ++ (a ++ ((b ++ c) ++ d))
closed t a b c d =
    four t a b c d ∙ ap (λ l. t ++ l) (ap (λ l. l ++ d) (append_assoc a b c) ∙ append_assoc a (b ++ c) d)

-- an address and four words, each after a blank
module _ (t a b w x y z : List ℕ) where
  five : t ++ a ++ b ++ w ++ b ++ x ≡ t ++ (a ++ b ++ w ++ b ++ x)
  five = ap (λ l. l ++ x) (four t a b w b) ∙ append_assoc t (a ++ b ++ w ++ b) x

  six : t ++ a ++ b ++ w ++ b ++ x ++ b ≡ t ++ (a ++ b ++ w ++ b ++ x ++ b)
  six = ap (λ l. l ++ b) five ∙ append_assoc t (a ++ b ++ w ++ b ++ x) b

  seven : t ++ a ++ b ++ w ++ b ++ x ++ b ++ y ≡ t ++ (a ++ b ++ w ++ b ++ x ++ b ++ y)
  seven = ap (λ l. l ++ y) six ∙ append_assoc t (a ++ b ++ w ++ b ++ x ++ b) y

  eight : t ++ a ++ b ++ w ++ b ++ x ++ b ++ y ++ b ≡ t ++ (a ++ b ++ w ++ b ++ x ++ b ++ y ++ b)
  eight = ap (λ l. l ++ b) seven ∙ append_assoc t (a ++ b ++ w ++ b ++ x ++ b ++ y) b

  pub nine : t ++ a ++ b ++ w ++ b ++ x ++ b ++ y ++ b ++ z ≡ t ++ (a ++ b ++ w ++ b ++ x ++ b ++ y ++ b ++ z)
  nine = ap (λ l. l ++ z) eight ∙ append_assoc t (a ++ b ++ w ++ b ++ x ++ b ++ y ++ b) z

-- as many zeros as lack to four digits
pub zeros : (n : ℕ) → n ≤ 4 → take {A = ℕ} n (48 ∷ 48 ∷ 48 ∷ 48 ∷ []) ≡ replicate n 48
zeros zero few = refl
zeros (suc zero) few = refl
zeros (suc (suc zero)) few = refl
zeros (suc (suc (suc zero))) few = refl
zeros (suc (suc (suc (suc zero)))) few = refl
zeros (suc (suc (suc (suc (suc n))))) few = absurd (omega (arith, few))
