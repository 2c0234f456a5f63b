-- Digits in one base read in another.
use Rattle.std.proofs.Common.{◌≡◌, ℕ, zero, suc, ◌+◌, ◌-◌, ◌*◌, ◌/◌, ◌%◌, ◌^◌, ◌<◌, ◌≤◌, true, false, ◌&&◌, nat_lt}
use Rattle.std.proofs.Common.{refl, ◌∙◌}
use Rattle.std.proofs.Common.{arith, add-one}
use Rattle.std.proofs.lemmas.Nat.{mul-add-lt}
use Rattle.std.proofs.lemmas.Bool.Decides.{nat_tests}
use Rattle.std.proofs.Math.Nat.{pow-suc, pow-le-pow_right, mul_comm, mul_assoc, mul-add, zero-div, zero-mod}
use Rattle.s370_bytes.specs.Decimal.{rebased, is_decimal}

pub rebased_step : (to from m n x : ℕ) → m ≡ suc n → rebased to from m x ≡ x % from + to * rebased to from n (x / from)
unfolding rebased
rebased_step to from m n x e = rw e refl

pub rebased_none : (to from x : ℕ) → rebased to from 0 x ≡ 0
unfolding rebased
rebased_none to from x = refl

-- no digits are left of zero
pub rebased_zero : (to from m : ℕ) → 0 < from → rebased to from m 0 ≡ 0
rebased_zero to from zero some = rebased_none to from 0
rebased_zero to from (suc n) some =
    rw (rebased_step to from (suc n) n 0 refl, zero-div from, zero-mod from, rebased_zero to from n some) (omega arith)

pub decimal_step : (m n x : ℕ) → m ≡ suc n → is_decimal m x ≡ nat_lt (x % 16) 10 && is_decimal n (x / 16)
unfolding is_decimal
decimal_step m n x e = rw e refl

pub decimal_none : (x : ℕ) → is_decimal 0 x ≡ true
unfolding is_decimal
decimal_none x = refl

-- A power grows by its base.
pub power_next : (b k : ℕ) → b ^ (k + 1) ≡ b ^ k * b
power_next b k = rw add-one (pow-suc b k)

-- one more digit d of the weight s
pub more : (v s d to r total : ℕ) → v + s * (d + to * r) ≡ total → v + d * s + s * to * r ≡ total
more v s d to r total h =
    let e : s * (d + to * r) ≡ s * d + s * (to * r) = mul-add s d (to * r) in
    let f : s * d ≡ d * s = mul_comm s d in
    let g : s * to * r ≡ s * (to * r) = mul_assoc s to r in
    omega (arith, e, f, g)

-- One more digit keeps a number below its bound.
pub below_more : (v s d to : ℕ) → v < s → d < to → v + d * s < s * to
below_more v s d to h g = omega (arith, mul-add-lt d s v to g h)

-- A power of ten of at most fifteen digits is at most 10^14.
pub tens : (k : ℕ) → k < 15 → 10 ^ k ≤ 10 ^ 14
tens k h = let p : 0 < 10 = omega arith in let q : k ≤ 14 = omega arith in pow-le-pow_right p q

-- A power of sixteen of at most fifteen digits is at most 16^14.
pub sixteens : (k : ℕ) → k < 15 → 16 ^ k ≤ 16 ^ 14
sixteens k h = let p : 0 < 16 = omega arith in let q : k ≤ 14 = omega arith in pow-le-pow_right p q

-- the invariant of both loops after one more digit
pub number_more : (to from k x v s total : ℕ) → k < 15 → v + s * rebased to from (15 - k) x ≡ total
    → v + x % from * s + s * to * rebased to from (15 - (k + 1)) (x / from) ≡ total
number_more to from k x v s total h e =
    let m : 15 - k ≡ suc (15 - (k + 1)) = omega arith in
    let f = rebased_step to from (15 - k) (15 - (k + 1)) x m in
    more v s (x % from) to (rebased to from (15 - (k + 1)) (x / from)) total (rw f at e)

-- After fifteen digits the number is complete.
pub all_number : (to from k x v s total : ℕ) → 15 ≤ k → v + s * rebased to from (15 - k) x ≡ total → v ≡ total
all_number to from k x v s total h e =
    let m : 15 - k ≡ 0 = omega arith in
    let f = rw (m, rebased_none to from x) at e in
    omega (arith, f)

-- A decimal digit that is good leaves the rest to be good.
pub digits_more : (k x : ℕ) → k < 15 → x % 16 ≤ 9 → is_decimal (15 - k) x ≡ is_decimal (15 - (k + 1)) (x / 16)
digits_more k x h d =
    let m : 15 - k ≡ suc (15 - (k + 1)) = omega arith in
    decimal_step (15 - k) (15 - (k + 1)) x m ∙ (grind (arith, nat_tests))

-- A digit over nine makes the number no decimal.
pub digits_wrong : (k x : ℕ) → k < 15 → 9 < x % 16 → is_decimal (15 - k) x ≡ false
digits_wrong k x h d =
    let m : 15 - k ≡ suc (15 - (k + 1)) = omega arith in
    decimal_step (15 - k) (15 - (k + 1)) x m ∙ (grind (arith, nat_tests))

-- After fifteen digits all were good.
pub digits_all : (k x : ℕ) → 15 ≤ k → is_decimal (15 - k) x ≡ true
digits_all k x h = let m : 15 - k ≡ 0 = omega arith in rw (m) (decimal_none x)
