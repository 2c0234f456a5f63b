use Rattle.std.proofs.Common.{◌≤◌, ◌^◌, arith}
use Rattle.std.proofs.Math.Nat.{pow-le-pow_right}
use Rattle.text_words.proofs.numbers.hexadecimal_of.Goals as goal

pub overflow_mul-number : goal.overflow_mul-number
overflow_mul-number c =
    let most : 16 ^ c.loop-digit.digit-index ≤ 16 ^ 7 = pow-le-pow_right {n = 16} (omega arith) {j = 7} (omega arith) in
    omega (arith, most, c.loop-digit.invariant.small)

pub overflow_add-number : goal.overflow_add-number
overflow_add-number c =
    let most : 16 ^ c.loop-digit.digit-index ≤ 16 ^ 7 = pow-le-pow_right {n = 16} (omega arith) {j = 7} (omega arith) in
    omega (arith, most, c.loop-digit.invariant.small, c.in_ok-digit_value.ensures.below, c.from.ensures)

pub returns-clause-below : goal.returns-clause-below
returns-clause-below c =
    let most : 16 ^ c.loop-digit.digit-index ≤ 16 ^ c.args.most = pow-le-pow_right {n = 16}
    (omega arith) {j = c.args.most} (omega arith) in
    omega (arith, most, c.loop-digit.invariant.small)
