use Rattle.std.proofs.Common.{rules, arith, ◌≡◌, ℕ, ◌+◌, ◌-◌, ◌*◌, ◌%◌, ◌^◌, ◌<◌, ◌∙◌, sym, ap}
use Rattle.std.proofs.lemmas.Nat.{mul-le}
use Rattle.s370_bytes.proofs.Bases.{sixteens, number_more, all_number, below_more, power_next, rebased_zero}
use Rattle.s370_bytes.proofs.decimal.decimal_digits.Goals as goal

pub overflow_mul-value : goal.overflow_mul-value
overflow_mul-value c =
    let t = sixteens c.loop-k._k c.loop-k-test.true in
    let m = mul-le (c.loop-k.rest % 10) c.loop-k.scale 9 (16 ^ 14) (omega arith) (omega arith) in
    let u : c.loop-k.rest % 10 * c.loop-k.scale < 2 ^ 64 = omega (arith, m) in
    search rules

pub overflow_add-value : goal.overflow_add-value
overflow_add-value c =
    let t = sixteens c.loop-k._k c.loop-k-test.true in
    let b = below_more c.loop-k.value c.loop-k.scale (c.loop-k.rest % 10) 16 c.loop-k.invariant.below (omega arith) in
    let u : c.loop-k.value + c.loop-k.rest % 10 * c.loop-k.scale < 2 ^ 64 = omega (arith, b) in
    search rules

pub overflow_mul-scale : goal.overflow_mul-scale
overflow_mul-scale c =
    let t = sixteens c.loop-k._k c.loop-k-test.true in
    search rules

pub loop-k-preserved : goal.loop-k-preserved
loop-k-preserved c = record {
  number = number_more 16 10 c.loop-k._k c.loop-k.rest c.loop-k.value c.loop-k.scale _ c.loop-k-test.true
      c.loop-k.invariant.number;
  scaled = ap (λ (n : ℕ). n * 16) c.loop-k.invariant.scaled ∙ sym (power_next 16 c.loop-k._k);
  below = below_more c.loop-k.value c.loop-k.scale (c.loop-k.rest % 10) 16 c.loop-k.invariant.below (omega arith);
}

pub returns : goal.returns
returns c =
    let n = all_number 16 10 c.loop-k._k c.loop-k.rest c.loop-k.value c.loop-k.scale _ c.loop-k-test.false
    c.loop-k.invariant.number in
    let k : c.loop-k._k ≡ 15 = omega arith in
    let s : c.loop-k.scale ≡ 16 ^ 15 = c.loop-k.invariant.scaled ∙ ap (λ (i : ℕ). 16 ^ i) k in
    record { value = n; below = omega (arith, s) }

pub returns-then-rest-eq0-clause-value : goal.returns-then-rest-eq0-clause-value
returns-then-rest-eq0-clause-value c =
    let some : 0 < 10 = omega arith in
    let n = rw (c.if-rest-eq0.true, rebased_zero 16 10 (15 - c.loop-k._k) some) at c.loop-k.invariant.number in
    omega (arith, n)

pub returns-then-rest-eq0-clause-below : goal.returns-then-rest-eq0-clause-below
returns-then-rest-eq0-clause-below c =
    omega (arith, sixteens c.loop-k._k c.loop-k-test.true, c.loop-k.invariant.scaled, c.loop-k.invariant.below)
