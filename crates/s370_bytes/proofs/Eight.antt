-- Eight bytes as a number: an operation on the bits of two numbers goes byte by byte.
use Rattle.std.proofs.Common.{◌≡◌, ⊎_elim, ℕ, zero, suc, ◌+◌, ◌-◌, ◌*◌, ◌/◌, ◌%◌, ◌^◌, ◌<◌, ◌≤◌, get_or}
use Rattle.std.proofs.Common.{bit_and, bit_or, bit_xor, refl, ap, sym, ◌∙◌, arith}
use Rattle.std.proofs.lemmas.Bool.{cases_lt}
use Rattle.std.proofs.lemmas.Nat.{and_mask, and_mod, and_shr, or_mod, or_shifted, or_shr, shl-shr, shr-shr, xor_mod}
use Rattle.std.proofs.lemmas.Nat.{pow-add, xor_lt, xor_shr}
use Rattle.std.proofs.lemmas.Nat.Bits.{and_high_mask}
use Rattle.std.proofs.Math.Nat.{mod-add-div'}
use Rattle.std.specs.Int.{w64, to_be_bytes}
use Rattle.std.specs.Int.Bits.{xor_self, xor_assoc, xor_zero_l, xor_zero_r}
use Rattle.s370_bytes.specs.declared.combine.Combine.{Combine}
use Rattle.s370_bytes.specs.declared.combine.Combine.TheVariants.{Move, MoveNumerics, MoveZones, And, Or, ExclusiveOr}
use Rattle.s370_bytes.specs.Combine.{combined}

-- the byte whose lowest bit has this weight
abbrev byte_from : ℕ → ℕ → ℕ
byte_from n p = n / 2 ^ p % 2 ^ 8

-- byte k of eight, from the left
pub byte_of : (n k : ℕ) → k < 8 → get_or (to_be_bytes w64 n) k 0 ≡ n / 2 ^ (8 * (7 - k)) % 2 ^ 8
byte_of n zero l = refl
byte_of n (suc zero) l = refl
byte_of n (suc (suc zero)) l = refl
byte_of n (suc (suc (suc zero))) l = refl
byte_of n (suc (suc (suc (suc zero)))) l = refl
byte_of n (suc (suc (suc (suc (suc zero))))) l = refl
byte_of n (suc (suc (suc (suc (suc (suc zero)))))) l = refl
byte_of n (suc (suc (suc (suc (suc (suc (suc zero))))))) l = omega arith
byte_of n (suc (suc (suc (suc (suc (suc (suc (suc k)))))))) l = absurd (omega arith)

-- past eight bytes there is none
no_byte : (n k : ℕ) → 8 ≤ k → get_or (to_be_bytes w64 n) k 0 ≡ 0
no_byte n (suc (suc (suc (suc (suc (suc (suc (suc k)))))))) l = refl
no_byte n zero l = absurd (omega arith)
no_byte n (suc zero) l = absurd (omega arith)
no_byte n (suc (suc zero)) l = absurd (omega arith)
no_byte n (suc (suc (suc zero))) l = absurd (omega arith)
no_byte n (suc (suc (suc (suc zero)))) l = absurd (omega arith)
no_byte n (suc (suc (suc (suc (suc zero))))) l = absurd (omega arith)
no_byte n (suc (suc (suc (suc (suc (suc zero)))))) l = absurd (omega arith)
no_byte n (suc (suc (suc (suc (suc (suc (suc zero))))))) l = absurd (omega arith)

-- ---- operations on bits

and_byte : (x y p : ℕ) → byte_from (bit_and x y) p ≡ bit_and (byte_from x p) (byte_from y p)
and_byte x y p = ap (λ n. n % 2 ^ 8) (and_shr x y p) ∙ and_mod (x / 2 ^ p) (y / 2 ^ p) 8

or_byte : (x y p : ℕ) → byte_from (bit_or x y) p ≡ bit_or (byte_from x p) (byte_from y p)
or_byte x y p = ap (λ n. n % 2 ^ 8) (or_shr x y p) ∙ or_mod (x / 2 ^ p) (y / 2 ^ p) 8

xor_byte : (x y p : ℕ) → byte_from (bit_xor x y) p ≡ bit_xor (byte_from x p) (byte_from y p)
xor_byte x y p = ap (λ n. n % 2 ^ 8) (xor_shr x y p) ∙ xor_mod (x / 2 ^ p) (y / 2 ^ p) 8

-- the left halves of the bytes of one number and the right halves of those of another
halves_byte : (x y p : ℕ) → byte_from 0xF0F0F0F0F0F0F0F0 p ≡ 240 → byte_from 0x0F0F0F0F0F0F0F0F p ≡ 15
    → byte_from (bit_or (bit_and x 0xF0F0F0F0F0F0F0F0) (bit_and y 0x0F0F0F0F0F0F0F0F)) p
    ≡ byte_from x p / 16 * 16 + byte_from y p % 16
halves_byte x y p zones numerics =
    let a = byte_from x p in
    let b = byte_from y p in
    let left : byte_from (bit_and x 0xF0F0F0F0F0F0F0F0) p ≡ a / 16 * 16 =
    and_byte x 0xF0F0F0F0F0F0F0F0 p ∙ ap (bit_and a) zones ∙ and_high_mask 8 4 (omega arith) a (omega arith) in
    let right : byte_from (bit_and y 0x0F0F0F0F0F0F0F0F) p ≡ b % 16 =
    and_byte y 0x0F0F0F0F0F0F0F0F p ∙ ap (bit_and b) numerics ∙ and_mask b 4 in
    or_byte _ _ p ∙ ap (λ n. bit_or n (byte_from (bit_and y 0x0F0F0F0F0F0F0F0F) p)) left
    ∙ ap (bit_or (a / 16 * 16)) right ∙ or_shifted (a / 16) 4 (b % 16) (omega arith)

zones_at : (k : ℕ) → k < 8 → byte_from 0xF0F0F0F0F0F0F0F0 (8 * (7 - k)) ≡ 240
zones_at k l = sym (byte_of 0xF0F0F0F0F0F0F0F0 k l) ∙ all_zones k l
  where
    all_zones : (k : ℕ) → k < 8 → get_or (to_be_bytes w64 0xF0F0F0F0F0F0F0F0) k 0 ≡ 240
    all_zones zero l = refl
    all_zones (suc zero) l = refl
    all_zones (suc (suc zero)) l = refl
    all_zones (suc (suc (suc zero))) l = refl
    all_zones (suc (suc (suc (suc zero)))) l = refl
    all_zones (suc (suc (suc (suc (suc zero))))) l = refl
    all_zones (suc (suc (suc (suc (suc (suc zero)))))) l = refl
    all_zones (suc (suc (suc (suc (suc (suc (suc zero))))))) l = refl
    all_zones (suc (suc (suc (suc (suc (suc (suc (suc k)))))))) l = absurd (omega arith)

numerics_at : (k : ℕ) → k < 8 → byte_from 0x0F0F0F0F0F0F0F0F (8 * (7 - k)) ≡ 15
numerics_at k l = sym (byte_of 0x0F0F0F0F0F0F0F0F k l) ∙ all_numerics k l
  where
    all_numerics : (k : ℕ) → k < 8 → get_or (to_be_bytes w64 0x0F0F0F0F0F0F0F0F) k 0 ≡ 15
    all_numerics zero l = refl
    all_numerics (suc zero) l = refl
    all_numerics (suc (suc zero)) l = refl
    all_numerics (suc (suc (suc zero))) l = refl
    all_numerics (suc (suc (suc (suc zero)))) l = refl
    all_numerics (suc (suc (suc (suc (suc zero))))) l = refl
    all_numerics (suc (suc (suc (suc (suc (suc zero)))))) l = refl
    all_numerics (suc (suc (suc (suc (suc (suc (suc zero))))))) l = refl
    all_numerics (suc (suc (suc (suc (suc (suc (suc (suc k)))))))) l = absurd (omega arith)

-- eight bytes that are combined at once
abbrev pub eight : Combine → ℕ → ℕ → ℕ
eight Move x y = y
eight MoveNumerics x y = bit_or (bit_and x 0xF0F0F0F0F0F0F0F0) (bit_and y 0x0F0F0F0F0F0F0F0F)
eight MoveZones x y = bit_or (bit_and y 0xF0F0F0F0F0F0F0F0) (bit_and x 0x0F0F0F0F0F0F0F0F)
eight And x y = bit_and x y
eight Or x y = bit_or x y
eight ExclusiveOr x y = bit_xor x y

combined_from : (op : Combine) (x y k : ℕ) → k < 8 → byte_from (eight op x y) (8 * (7 - k))
    ≡ combined op (byte_from x (8 * (7 - k))) (byte_from y (8 * (7 - k)))
combined_from Move x y k l = refl
combined_from MoveNumerics x y k l = halves_byte x y (8 * (7 - k)) (zones_at k l) (numerics_at k l)
combined_from MoveZones x y k l = halves_byte y x (8 * (7 - k)) (zones_at k l) (numerics_at k l)
combined_from And x y k l = and_byte x y (8 * (7 - k))
combined_from Or x y k l = or_byte x y (8 * (7 - k))
combined_from ExclusiveOr x y k l = xor_byte x y (8 * (7 - k))

-- each of eight bytes that are combined at once is made of a byte of each operand
pub combined_eight : (op : Combine) (x y k : ℕ) → k < 8 → get_or (to_be_bytes w64 (eight op x y)) k 0
    ≡ combined op (get_or (to_be_bytes w64 x) k 0) (get_or (to_be_bytes w64 y) k 0)
combined_eight op x y k l = rw (byte_of (eight op x y) k l, byte_of x k l, byte_of y k l) (combined_from op x y k l)

-- ---- the first bytes of one number, and the others of another

-- bits from s on, moved down and up again, are as they were from there on, and zero below
kept_above : (d s p : ℕ) → s ≤ p → d / 2 ^ s * 2 ^ s / 2 ^ p ≡ d / 2 ^ p
kept_above d s p le =
    let e : s + (p - s) ≡ p = omega arith in
    ap (λ n. d / 2 ^ s * 2 ^ s / 2 ^ n) (sym e) ∙ sym (shr-shr (d / 2 ^ s * 2 ^ s) s (p - s))
    ∙ ap (λ n. n / 2 ^ (p - s)) (shl-shr (d / 2 ^ s) s) ∙ shr-shr d s (p - s) ∙ ap (λ n. d / 2 ^ n) e

none_below : (d s p : ℕ) → p + 8 ≤ s → byte_from (d / 2 ^ s * 2 ^ s) p ≡ 0
none_below d s p le =
    let e : 2 ^ s ≡ 2 ^ (s - p - 8) * 2 ^ 8 * 2 ^ p = ap (λ n. 2 ^ n) (omega arith) ∙ pow-add 2 (s - p - 8 + 8) p
    ∙ ap (λ n. n * 2 ^ p) (pow-add 2 (s - p - 8) 8) in
    let f : d / 2 ^ s * 2 ^ s ≡ d / 2 ^ s * 2 ^ (s - p - 8) * 2 ^ 8 * 2 ^ p =
    omega (arith, ap (λ n. d / 2 ^ s * n) e) in
    ap (λ n. byte_from n p) f ∙ ap (λ n. n % 2 ^ 8) (shl-shr (d / 2 ^ s * 2 ^ (s - p - 8) * 2 ^ 8) p) ∙ omega arith

-- what is changed back is as it was
twice : (x c : ℕ) → bit_xor x (bit_xor x c) ≡ c
twice x c = sym (xor_assoc x x c) ∙ ap (λ n. bit_xor n c) (xor_self x) ∙ xor_zero_l c

-- bits that are moved down and up again fit
fits_still : (d s : ℕ) → d < 2 ^ 64 → d / 2 ^ s * 2 ^ s % 2 ^ 64 ≡ d / 2 ^ s * 2 ^ s
fits_still d s fits = omega (arith, fits, mod-add-div' d (2 ^ s))

-- the first bytes of c and the others of x: bits from s on are changed to those of c
abbrev pub joined : ℕ → ℕ → ℕ → ℕ
joined x c s = bit_xor x (bit_xor x c / 2 ^ s * 2 ^ s % 2 ^ 64)

joined_is : (x c s : ℕ) → x < 2 ^ 64 → c < 2 ^ 64 → joined x c s ≡ bit_xor x (bit_xor x c / 2 ^ s * 2 ^ s)
joined_is x c s low high = ap (bit_xor x) (fits_still (bit_xor x c) s (xor_lt 64 x c low high))

-- each of the first bytes is c's
pub front_byte : (x c count k : ℕ) → x < 2 ^ 64 → c < 2 ^ 64 → count ≤ 8 → k < count
    → get_or (to_be_bytes w64 (joined x c (64 - 8 * count))) k 0 ≡ get_or (to_be_bytes w64 c) k 0
front_byte x c count k low high few l =
    let s = 64 - 8 * count in
    let p = 8 * (7 - k) in
    let small : k < 8 = omega arith in
    let e : byte_from (joined x c s) p ≡ byte_from c p = ap (λ n. byte_from n p) (joined_is x c s low high)
    ∙ xor_byte x (bit_xor x c / 2 ^ s * 2 ^ s) p
    ∙ ap (λ n. bit_xor (byte_from x p) (n % 2 ^ 8)) (kept_above (bit_xor x c) s p (omega arith))
    ∙ ap (bit_xor (byte_from x p)) (xor_byte x c p) ∙ twice (byte_from x p) (byte_from c p) in
    byte_of (joined x c s) k small ∙ e ∙ sym (byte_of c k small)

-- each of the others is x's
pub other_byte : (x c count k : ℕ) → x < 2 ^ 64 → c < 2 ^ 64 → count ≤ k
    → get_or (to_be_bytes w64 (joined x c (64 - 8 * count))) k 0 ≡ get_or (to_be_bytes w64 x) k 0
other_byte x c count k low high l =
    let s = 64 - 8 * count in
    let p = 8 * (7 - k) in
    ⊎_elim
    (λ (small : k < 8). (
    let e : byte_from (joined x c s) p ≡ byte_from x p = ap (λ n. byte_from n p) (joined_is x c s low high)
    ∙ xor_byte x (bit_xor x c / 2 ^ s * 2 ^ s) p
    ∙ ap (bit_xor (byte_from x p)) (none_below (bit_xor x c) s p (omega arith)) ∙ xor_zero_r (byte_from x p) in
    byte_of (joined x c s) k small ∙ e ∙ sym (byte_of x k small)))
    (λ (past : 8 ≤ k). no_byte (joined x c s) k past ∙ sym (no_byte x k past))
    (cases_lt k 8)
