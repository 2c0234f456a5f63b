use Rattle.std.proofs.Common.{rules, arith, ◌≡◌, ℕ, ◌+◌, ◌*◌, ◌%◌, ◌^◌, ◌<◌, ◌∙◌, sym, ap, refl}
use Rattle.std.proofs.lemmas.Nat.{mul-le}
use Rattle.s370_bytes.proofs.Bases.{tens, number_more, all_number, digits_more, digits_wrong, digits_all, below_more}
use Rattle.s370_bytes.proofs.Bases.{power_next}
use Rattle.s370_bytes.proofs.decimal.decimal_value.Goals as goal

pub overflow_mul-value : goal.overflow_mul-value
overflow_mul-value c =
    let t = tens c.loop-k._k c.loop-k-test.true in
    let m = mul-le (c.loop-k.rest % 16) c.loop-k.scale 9 (10 ^ 14) c.if-digit-gt9.false (omega arith) in
    let u : c.loop-k.rest % 16 * c.loop-k.scale < 2 ^ 64 = omega (arith, m) in
    search rules

pub overflow_add-value : goal.overflow_add-value
overflow_add-value c =
    let t = tens c.loop-k._k c.loop-k-test.true in
    let b = below_more c.loop-k.value c.loop-k.scale (c.loop-k.rest % 16) 10 c.loop-k.invariant.below (omega arith) in
    let u : c.loop-k.value + c.loop-k.rest % 16 * c.loop-k.scale < 2 ^ 64 = omega (arith, b) in
    search rules

pub overflow_mul-scale : goal.overflow_mul-scale
overflow_mul-scale c =
    let t = tens c.loop-k._k c.loop-k-test.true in
    search rules

pub returns-then-digit-gt9 : goal.returns-then-digit-gt9
returns-then-digit-gt9 c =
    let e = c.loop-k.invariant.digits ∙ digits_wrong c.loop-k._k c.loop-k.rest c.loop-k-test.true c.if-digit-gt9.true in
    record { value = rw e refl; below = tt }

pub loop-k-preserved : goal.loop-k-preserved
loop-k-preserved c = record {
  digits = c.loop-k.invariant.digits ∙ digits_more c.loop-k._k c.loop-k.rest c.loop-k-test.true c.if-digit-gt9.false;
  number = number_more 10 16 c.loop-k._k c.loop-k.rest c.loop-k.value c.loop-k.scale _ c.loop-k-test.true
      c.loop-k.invariant.number;
  scaled = ap (λ (n : ℕ). n * 10) c.loop-k.invariant.scaled ∙ sym (power_next 10 c.loop-k._k);
  below = below_more c.loop-k.value c.loop-k.scale (c.loop-k.rest % 16) 10 c.loop-k.invariant.below (omega arith);
}

pub returns : goal.returns
returns c =
    let d = c.loop-k.invariant.digits ∙ digits_all c.loop-k._k c.loop-k.rest c.loop-k-test.false in
    let n = all_number 10 16 c.loop-k._k c.loop-k.rest c.loop-k.value c.loop-k.scale _ c.loop-k-test.false
    c.loop-k.invariant.number in
    let k : c.loop-k._k ≡ 15 = omega arith in
    let s : c.loop-k.scale ≡ 10 ^ 15 = c.loop-k.invariant.scaled ∙ ap (λ (i : ℕ). 10 ^ i) k in
    record { value = rw (d, n) refl; below = omega (arith, s) }
