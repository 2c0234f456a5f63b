use Rattle.std.proofs.Common.{◌≡◌, ◌<◌, ◌≤◌, ◌+◌, ◌*◌, ◌/◌, ◌%◌, ℕ, List, [], ◌∷◌, length, drop, get_or, ap, ◌∙◌, arith}
use Rattle.byteorder.specs.Endian.{big_number}
use Rattle.ckd_image.proofs.reader.check_total.Goals as goal

pub returns-then-read_u32-total-clause-err : goal.returns-then-read_u32-total-clause-err
returns-then-read_u32-total-clause-err c = (
  c.read_u32.result,
  drop 4 c.args.bytes.now,
  omega (arith, c.read_u32.type_inv),
  c.if-read_u32-total.true,
  four c.args.bytes.now (λ i. omega (arith, c.type_inv.bytes i)) c.if-bytes-lt4.false c.read_u32.result
      c.read_u32.ensures,
)
  where
    four : (l : List ℕ) → ((i : ℕ) → get_or l i 0 < 256) → 4 ≤ length l → (n : ℕ) → n ≡ big_number 4 l
        → l ≡ n / 16777216 ∷ n / 65536 % 256 ∷ n / 256 % 256 ∷ n % 256 ∷ drop 4 l
    four [] small le n e = absurd (omega arith)
    four (a ∷ []) small le n e = absurd (omega arith)
    four (a ∷ b ∷ []) small le n e = absurd (omega arith)
    four (a ∷ b ∷ c ∷ []) small le n e = absurd (omega arith)
    four (a ∷ b ∷ c ∷ d ∷ t) small le n e =
        let sa : a < 256 = small 0 in
        let sb : b < 256 = small 1 in
        let sc : c < 256 = small 2 in
        let sd : d < 256 = small 3 in
        let whole : n ≡ a * 16777216 + (b * 65536 + (c * 256 + d)) = e ∙ omega arith in
        let ea : a ≡ n / 16777216 = omega (arith, whole, sb, sc, sd) in
        let eb : b ≡ n / 65536 % 256 = omega (arith, whole, sb, sc, sd) in
        let ec : c ≡ n / 256 % 256 = omega (arith, whole, sb, sc, sd) in
        let ed : d ≡ n % 256 = omega (arith, whole, sb, sc, sd) in
        ap (λ x. x ∷ b ∷ c ∷ d ∷ t) ea ∙ ap (λ x. n / 16777216 ∷ x ∷ c ∷ d ∷ t) eb
        ∙ ap (λ x. n / 16777216 ∷ n / 65536 % 256 ∷ x ∷ d ∷ t) ec
        ∙ ap (λ x. n / 16777216 ∷ n / 65536 % 256 ∷ n / 256 % 256 ∷ x ∷ t) ed
