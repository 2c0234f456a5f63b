-- Laws of headers that are read.
use Rattle.std.specs.Prelude.{ℕ, ◌+◌, ◌*◌, ◌/◌, ◌%◌, ◌≡◌, ◌<◌, ◌≤◌, refl, List, [], ◌∷◌, ◌++◌, length, take, drop}
use Rattle.std.specs.Prelude.{get_or}
use Rattle.std.proofs.Common.{sym, ◌∙◌, ap, arith, take-take, drop-drop, drop_at, take_at}
use Rattle.std.proofs.lemmas.List.{drop-take}
use Rattle.byteorder.specs.Endian.{big_number}
use Rattle.ckd_image.specs.Image.{two_bytes}
use Rattle.ckd_image.specs.Reading.{magic, most_cylinders, IsHeader}
use Rattle.ckd_image.specs.declared.header.Version.{Version}
use Rattle.ckd_image.specs.declared.header.Version.TheVariants.{One, Two}

pub twelve : (l : List ℕ) → 12 ≤ length l
    → l ≡ get_or l 0 0 ∷ get_or l 1 0 ∷ get_or l 2 0 ∷ get_or l 3 0 ∷ get_or l 4 0 ∷ get_or l 5 0 ∷ get_or l 6 0 ∷
    get_or l 7 0 ∷ get_or l 8 0 ∷ get_or l 9 0 ∷ get_or l 10 0 ∷ get_or l 11 0 ∷ drop 12 l
twelve [] le = absurd (omega arith)
twelve (a ∷ []) le = absurd (omega arith)
twelve (a ∷ b ∷ []) le = absurd (omega arith)
twelve (a ∷ b ∷ c ∷ []) le = absurd (omega arith)
twelve (a ∷ b ∷ c ∷ d ∷ []) le = absurd (omega arith)
twelve (a ∷ b ∷ c ∷ d ∷ e ∷ []) le = absurd (omega arith)
twelve (a ∷ b ∷ c ∷ d ∷ e ∷ f ∷ []) le = absurd (omega arith)
twelve (a ∷ b ∷ c ∷ d ∷ e ∷ f ∷ g ∷ []) le = absurd (omega arith)
twelve (a ∷ b ∷ c ∷ d ∷ e ∷ f ∷ g ∷ h ∷ []) le = absurd (omega arith)
twelve (a ∷ b ∷ c ∷ d ∷ e ∷ f ∷ g ∷ h ∷ i ∷ []) le = absurd (omega arith)
twelve (a ∷ b ∷ c ∷ d ∷ e ∷ f ∷ g ∷ h ∷ i ∷ j ∷ []) le = absurd (omega arith)
twelve (a ∷ b ∷ c ∷ d ∷ e ∷ f ∷ g ∷ h ∷ i ∷ j ∷ k ∷ []) le = absurd (omega arith)
twelve (a ∷ b ∷ c ∷ d ∷ e ∷ f ∷ g ∷ h ∷ i ∷ j ∷ k ∷ m ∷ t) le = refl

abbrev pub volser_in : List ℕ → List ℕ
volser_in l = get_or l 4 0 ∷ get_or l 5 0 ∷ get_or l 6 0 ∷ get_or l 7 0 ∷ get_or l 8 0 ∷ get_or l 9 0 ∷ []

-- The serial number of a volume is six bytes of the header from its fourth.
pub volser_bytes : (l : List ℕ) → 12 ≤ length l → take 6 (drop 4 l) ≡ volser_in l
volser_bytes l le = ap (λ x. take 6 (drop 4 x)) (twelve l le)

pub count_bytes_of : (l : List ℕ) → 12 ≤ length l → big_number 2
    (take 2 (drop 10 l)) ≡ 256 * get_or l 10 0 + get_or l 11 0
count_bytes_of l le = ap (λ x. big_number 2 (take 2 (drop 10 x))) (twelve l le) ∙ omega arith

-- the bytes of a header, put together
pub put_together : (l : List ℕ) (m : List ℕ) (n : ℕ) → ((i : ℕ) → get_or l i 0 < 256) → 12 ≤ length l → take 4 l ≡ m
    → n ≡ big_number 2 (take 2 (drop 10 l))
    → take 12 l ≡ m ++ (volser_in l ++ two_bytes n)
put_together l m n small le e count =
    let whole : n ≡ 256 * get_or l 10 0 + get_or l 11 0 = count ∙ count_bytes_of l le in
    let high : get_or l 10 0 ≡ n / 256 = omega (arith, whole, small 11) in
    let low : get_or l 11 0 ≡ n % 256 = omega (arith, whole, small 11) in
    let first : get_or l 0 0 ∷ get_or l 1 0 ∷ get_or l 2 0 ∷ get_or l 3 0 ∷ [] ≡ m = sym
    (ap (λ x. take 4 x) (twelve l le)) ∙ e in
    ap (λ x. take 12 x) (twelve l le)
    ∙ ap (λ x. x ++ (volser_in l ++ (get_or l 10 0 ∷ get_or l 11 0 ∷ []))) first
    ∙ ap (λ x. m ++ (volser_in l ++ (x ∷ get_or l 11 0 ∷ []))) high
    ∙ ap (λ x. m ++ (volser_in l ++ (n / 256 ∷ x ∷ []))) low

four_long : (version : Version) → length (magic version) ≡ 4
four_long One = refl
four_long Two = refl

pub record HeaderParts (l : List ℕ) (version : Version) (volser : List ℕ) (count : ℕ) : Type 0 where
  pub begins : take 4 l ≡ magic version
  pub named : take 6 (drop 4 l) ≡ volser
  pub counted : big_number 2 (take 2 (drop 10 l)) ≡ count

-- the parts of a header
pub taken_apart : (l : List ℕ) (version : Version) (volser : List ℕ) (count : ℕ)
    → IsHeader (take 12 l) version volser count → HeaderParts l version volser count
taken_apart l version volser count h =
    let rest : take 8 (drop 4 l) ≡ volser ++ two_bytes count =
    sym (drop-take 4 8 l) ∙ ap (λ x. drop 4 x) h.spelled ∙ drop_at (magic version) (volser ++ two_bytes count) 4
    (four_long version) in
    let last : take 2 (drop 10 l) ≡ two_bytes count =
    ap (λ x. take 2 x) (sym (drop-drop 6 4 l)) ∙ sym (drop-take 6 2 (drop 4 l)) ∙ ap (λ x. drop 6 x) rest
    ∙ drop_at volser (two_bytes count) 6 h.long in
    record {
      begins = sym (take-take 4 12 l (omega arith)) ∙ ap (λ x. take 4 x) h.spelled
          ∙ take_at (magic version) (volser ++ two_bytes count) 4 (four_long version);
      named = sym (take-take 6 8 (drop 4 l) (omega arith)) ∙ ap (λ x. take 6 x) rest
          ∙ take_at volser (two_bytes count) 6 h.long;
      counted = ap (λ x. big_number 2 x) last ∙ omega arith;
    }

-- the bytes say the version
pub same_most : (a b : Version) → magic a ≡ magic b → most_cylinders a ≡ most_cylinders b
same_most One One e = refl
same_most One Two e = absurd (omega (arith, ap (λ x. get_or x 3 0) e))
same_most Two One e = absurd (omega (arith, ap (λ x. get_or x 3 0) e))
same_most Two Two e = refl
