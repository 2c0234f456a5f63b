-- Devices that are put among others in the order of their starts.
use Rattle.std.proofs.Common.{◌≡◌, ◌∙◌, ℕ, ◌+◌, ◌≤◌, Bool, true, false, List, [], ◌∷◌, ap, refl, sym, arith}
use Rattle.std.specs.Prelude.{◌&&◌, if◌then◌else◌}
use Rattle.std.proofs.lemmas.Bool.{ltb-false, ltb-true}
use Rattle.s370_subchannels.specs.declared.subchannel.Subchannel.{Subchannel}
use Rattle.sessions.specs.Installed.{Installed, subchannels_at}
use Rattle.sessions.specs.Schedule.{in_order, is_before, is_joining, started_since, with_joining}
use Rattle.sessions.specs.Started.{AreInOrder, StartFrom, StartsAreComplete, StartsAreInOrder, count}

by_test : (P : List Subchannel → Type 0) (b : Bool) (then_these these : List Subchannel) → (b ≡ true → P then_these)
    → (b ≡ false → P these) → P (if b then then_these else these)
by_test P true then_these these y n = y refl
by_test P false then_these these y n = n refl

not_before : (d other : Subchannel) → is_before d other ≡ false → other.last_start ≤ d.last_start
not_before d other is = ltb-false d.last_start other.last_start is

-- ---- in order

from_earlier : (a b : ℕ) (ds : List Subchannel) → a ≤ b → StartFrom b ds → StartFrom a ds
from_earlier a b [] less from = tt
from_earlier a b (d ∷ ds) less from =
    ((let first = from.0 in omega (arith, less, first)), from_earlier a b ds less from.1)

put_from : (start : ℕ) (d : Subchannel) (ds : List Subchannel) → start ≤ d.last_start → StartFrom start ds
    → StartFrom start (in_order d ds)
put_from start d [] less from = (less, tt)
put_from start d (other ∷ others) less from =
    by_test (StartFrom start) (is_before d other) (d ∷ other ∷ others) (other ∷ in_order d others)
    (λ is. (less, from))
    (λ is. (from.0, put_from start d others less from.1))

put : (d : Subchannel) (ds : List Subchannel) → AreInOrder ds → AreInOrder (in_order d ds)
put d [] ordered = (tt, tt)
put d (other ∷ others) ordered =
    by_test AreInOrder (is_before d other) (d ∷ other ∷ others) (other ∷ in_order d others)
    (λ is. (
    let less : d.last_start ≤ other.last_start =
    (let l = ltb-true d.last_start other.last_start is in omega (arith, l)) in
    ((less, from_earlier d.last_start other.last_start others less ordered.0), ordered)
    ))
    (λ is. (put_from other.last_start d others (not_before d other is) ordered.0, put d others ordered.1))

all_put : (s : Installed) (user number : ℕ) (sorted ds : List Subchannel) → AreInOrder sorted
    → AreInOrder (with_joining s user number sorted ds)
all_put s user number sorted [] ordered = ordered
all_put s user number sorted (d ∷ ds) ordered =
    all_put s user number (if is_joining s user number d then in_order d sorted else sorted) ds
    (by_test AreInOrder (is_joining s user number d) (in_order d sorted) sorted (λ is. put d sorted ordered)
    (λ is. ordered))

-- Programs join the line in the order of their starts.
pub in_starts_order : StartsAreInOrder
in_starts_order s user number = all_put s user number [] (subchannels_at s user) tt

-- ---- complete

abbrev one : (Subchannel → Bool) → Subchannel → ℕ
one is_such d = if is_such d then 1 else 0

zero_more : (n : ℕ) → n ≡ 0 + n
zero_more n = omega arith

more_zero : (n : ℕ) → n ≡ n + 0
more_zero n = omega arith

moved : (a b c : ℕ) → a + (b + c) ≡ b + (a + c)
moved a b c = omega arith

count_put : (is_such : Subchannel → Bool) (d : Subchannel) (ds : List Subchannel)
    → count is_such (in_order d ds) ≡ one is_such d + count is_such ds
count_put is_such d [] = refl
count_put is_such d (other ∷ others) =
    by_test (λ (xs : List Subchannel). count is_such xs ≡ one is_such d + (one is_such other + count is_such others))
    (is_before d other) (d ∷ other ∷ others) (other ∷ in_order d others)
    (λ is. refl)
    (λ is. ap (λ (n : ℕ). one is_such other + n) (count_put is_such d others) ∙ moved (one is_such other)
    (one is_such d) (count is_such others))

-- one device joins, or does not
joined_one : (is_such : Subchannel → Bool) (joins : Bool) (d : Subchannel) (sorted : List Subchannel)
    → count is_such (if joins then in_order d sorted else sorted)
    ≡ (if joins && is_such d then 1 else 0) + count is_such sorted
joined_one is_such true d sorted = count_put is_such d sorted
joined_one is_such false d sorted = zero_more (count is_such sorted)

sum_moved : (a b c d : ℕ) → a ≡ b + c → a + d ≡ c + (b + d)
sum_moved a b c d is = omega (arith, is)

all_counted : (s : Installed) (user number : ℕ) (is_such : Subchannel → Bool) (sorted ds : List Subchannel)
    → count is_such (with_joining s user number sorted ds)
    ≡ count is_such sorted + count (λ d. is_joining s user number d && is_such d) ds
all_counted s user number is_such sorted [] = more_zero (count is_such sorted)
all_counted s user number is_such sorted (d ∷ ds) =
    let joins = is_joining s user number d in
    let rest = count (λ (e : Subchannel). is_joining s user number e && is_such e) ds in
    let next : List Subchannel = if joins then in_order d sorted else sorted in
    all_counted s user number is_such next ds
    ∙ sum_moved (count is_such next) (if joins && is_such d then 1 else 0) (count is_such sorted) rest
    (joined_one is_such joins d sorted)

-- Each program that started joins the line.
pub all_started : StartsAreComplete
all_started s user number is_such =
    all_counted s user number is_such [] (subchannels_at s user) ∙ sym
    (zero_more (count (λ (d : Subchannel). is_joining s user number d && is_such d) (subchannels_at s user)))
