use Rattle.std.proofs.Common.{rules, arith, ◌≡◌, zero, suc, ◌<◌, Bool, true, false, Some, None, ℤ, pos, negsuc, int_div}
use Rattle.std.proofs.Common.{int_rem, FitsSigned, w32, refl, sym, ap, ◌∙◌, unsigned_abs, if◌then◌else◌}
use Rattle.std.specs.Int.{w64}
use Rattle.std.proofs.lemmas.Int.{to_z-of_z, ints, rem_below, fits_signed_from_abs}
use Rattle.std.proofs.lemmas.Bool.Decides.{nat_tests}
use lib.Signed.{lt_z}
use Rattle.s370_rows.specs.Arithmetic.{fits_word}
use Rattle.s370_rows.specs.Product.{divided, Division}
use Rattle.s370_rows.proofs.product.quotient_of.Goals as goal

fits_true : (q : ℤ) → lt_z q (negsuc 2147483647) ≡ false → lt_z (pos 2147483647) q ≡ false → fits_word q ≡ true
fits_true (pos n) g h = grind (arith, nat_tests)
fits_true (negsuc n) g h = grind (arith, nat_tests)

chosen : (t : Bool) (d : Division) → t ≡ true → (if t then Some d else None) ≡ Some d
chosen t d h = rw h refl

division : (a b q : ℤ) → 0 < unsigned_abs b → q ≡ int_div a b → lt_z q (negsuc 2147483647) ≡ false
    → lt_z (pos 2147483647) q ≡ false → divided a b ≡ Some (record { quotient = q; remainder = int_rem a b })
division a (pos zero) q n e g h = absurd (omega arith)
division a (pos (suc b)) q n e g h = rw e (chosen _ _ (ap fits_word (sym e) ∙ fits_true q g h))
division a (negsuc b) q n e g h = rw e (chosen _ _ (ap fits_word (sym e) ∙ fits_true q g h))

rem_fits : (a b : ℤ) → FitsSigned w32 b → 0 < unsigned_abs b → FitsSigned w32 (int_rem a b)
rem_fits a b f n = search (rules, rem_below a b n, fits_signed_from_abs)

fits_from : (q : ℤ) → lt_z q (negsuc 2147483647) ≡ false → lt_z (pos 2147483647) q ≡ false → FitsSigned w32 q
fits_from (pos n) g h = record { sfits = grind (arith, nat_tests) }
fits_from (negsuc n) g h = record { sfits = grind (arith, nat_tests) }

pub returns : goal.returns
returns c =
    let a = to_z-of_z w64 c.args.dividend (search rules) in
    let b = to_z-of_z w32 c.args.divisor (search rules) in
    let b64 = to_z-of_z w64 c.args.divisor (search rules) in
    let q = to_z-of_z w64 c.in_ok-quotient.quotient (search rules) in
    let e : c.in_ok-quotient.quotient ≡ int_div c.args.dividend c.args.divisor = cc (c.in_ok-quotient.ensures.1) in
    let g : lt_z c.in_ok-quotient.quotient (negsuc 2147483647) ≡ false = cc in
    let h : lt_z (pos 2147483647) c.in_ok-quotient.quotient ≡ false = cc in
    let n : 0 < unsigned_abs c.args.divisor = search (rules, ints, c.in_ok-quotient.ensures.0.0) in
    let r = rem_fits c.args.dividend c.args.divisor (search rules) n in
    let r32 = to_z-of_z w32 (int_rem c.args.dividend c.args.divisor) r in
    let r64 = to_z-of_z w64 (int_rem c.args.dividend c.args.divisor) (search rules) in
    let q32 = to_z-of_z w32 c.in_ok-quotient.quotient (fits_from _ g h) in
    let d = division c.args.dividend c.args.divisor c.in_ok-quotient.quotient n e g h in
    cc
