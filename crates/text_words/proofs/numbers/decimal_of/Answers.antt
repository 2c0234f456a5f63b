use Rattle.std.proofs.Common.{◌≤◌, ◌^◌, arith}
use Rattle.std.proofs.Math.Nat.{pow-le-pow_right}
use Rattle.text_words.proofs.numbers.decimal_of.Goals as goal

pub overflow_mul-number : goal.overflow_mul-number
overflow_mul-number c =
    let most : 10 ^ c.loop-digit.digit-index ≤ 10 ^ 8 = pow-le-pow_right {n = 10} (omega arith) {j = 8} (omega arith) in
    omega (arith, most, c.loop-digit.invariant.small)

pub overflow_add-number : goal.overflow_add-number
overflow_add-number c =
    let most : 10 ^ c.loop-digit.digit-index ≤ 10 ^ 8 = pow-le-pow_right {n = 10} (omega arith) {j = 8} (omega arith) in
    omega (arith, most, c.loop-digit.invariant.small)
