use Rattle.std.proofs.Common.{◌≡◌, ◌∙◌, ◌*◌, ◌%◌, ◌^◌, arith, false, refl, rules, sym}
use Rattle.std.specs.Prelude.{pos, ◌*ℤ◌}
use Rattle.s370_rows.specs.Arithmetic.{sign_code}
use Rattle.s370_rows.specs.Shift.{fits_pair, plain_pair}
use Rattle.s370_rows.specs.Pair.{signed_pair}
use Rattle.s370_rows.proofs.Shifts.{pair_kept, pair_lost}
use Rattle.s370_rows.proofs.shift.shift_left_pair.Goals as goal

pub returns-then-unsigned_bits-count-eq0 : goal.returns-then-unsigned_bits-count-eq0
returns-then-unsigned_bits-count-eq0 c =
    let b = c.unsigned_bits.ensures in
    let e : c.kept_pair.result ≡ plain_pair (c.args.a * 2 ^ c.args.count % 2 ^ 64) (sign_code (signed_pair c.args.a)) =
    search rules in
    e ∙ sym (pair_kept c.args.a c.args.count c.unsigned_bits.result (search rules) c.requires b.positive b.negative
    (search rules))

pub returns : goal.returns
returns c =
    let b = c.unsigned_bits.ensures in
    let e : fits_pair (signed_pair c.args.a *ℤ pos (2 ^ c.args.count)) ≡ false =
    pair_lost c.args.a c.args.count c.unsigned_bits.result (search rules) c.requires b.positive b.negative
    (search rules) in
    let low : c.args.a * 2 ^ c.args.count % 2 ^ 64 % 2 ^ 63 ≡ c.args.a * 2 ^ c.args.count % 2 ^ 63 = omega arith in
    rw (e, low) refl
