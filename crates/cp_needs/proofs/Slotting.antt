-- Lemmas of specs/Slots.
use Rattle.std.specs.Prelude.{ℕ, zero, suc, ◌+◌, ◌<◌, ◌≤◌, ◌≡◌, ◌≢◌, refl, false, nat_eq, List, [], Option, None, Some}
use Rattle.std.specs.Prelude.{length, replicate, slice_index, slice_set}
use Rattle.std.specs.HashMap.{HashMap, Updates, get}
use Rattle.std.proofs.Common.{◌∙◌, ap, arith, sym}
use Rattle.std.proofs.lemmas.Bool.Decides.{nat_tests}
use Rattle.cp_needs.specs.Slots.{numbers, or_zero}

-- As many numbers are read as were asked for.
pub as_many : (first count : ℕ) (held : ℕ → Option ℕ) → length (numbers first count held) ≡ count
as_many first zero held = refl
as_many first (suc count) held = (let rest = as_many (first + 1) count held in omega (arith, rest))

-- nothing is held
pub all_zero : (first count : ℕ) (held : ℕ → Option ℕ) → ((slot : ℕ) → held slot ≡ None)
    → numbers first count held ≡ replicate count 0
all_zero first zero held none = refl
all_zero first (suc count) held none = rw (none first, all_zero (first + 1) count held none) refl

pub read_at : (first count slot : ℕ) (held : ℕ → Option ℕ) → slot < count
    → slice_index (numbers first count held) slot ≡ or_zero (held (first + slot))
read_at first zero slot held lt = absurd (omega (arith, lt))
read_at first (suc count) zero held lt = (let same : first + 0 ≡ first = omega arith in rw same refl)
read_at first (suc count) (suc slot) held lt =
    let same : first + 1 + slot ≡ first + suc slot = omega arith in
    read_at (first + 1) count slot held (omega (arith, lt)) ∙ ap (λ (n : ℕ). or_zero (held n)) same

-- what is held of other slots does not matter
same_from : (first count : ℕ) (held held' : ℕ → Option ℕ) → ((slot : ℕ) → first ≤ slot → held' slot ≡ held slot)
    → numbers first count held' ≡ numbers first count held
same_from first zero held held' same = refl
same_from first (suc count) held held' same =
    let here : held' first ≡ held first = same first (omega arith) in
    rw (here, same_from (first + 1) count held held' (λ slot le. same slot (omega (arith, le)))) refl

-- one more is held
pub set_at : (first count slot number : ℕ) (held held' : ℕ → Option ℕ) → slot < count
    → held' (first + slot) ≡ Some number → ((other : ℕ) → other ≢ first + slot → held' other ≡ held other)
    → numbers first count held' ≡ slice_set (numbers first count held) slot number
set_at first zero slot number held held' lt here others = absurd (omega (arith, lt))
set_at first (suc count) zero number held held' lt here others =
    let same : first + 0 ≡ first = omega arith in
    let at : held' first ≡ Some number = ap held' (sym same) ∙ here in
    rw (at, same_from (first + 1) count held held' (λ slot le. others slot (λ e. omega (arith, le, e)))) refl
set_at first (suc count) (suc slot) number held held' lt here others =
    let same : first + 1 + slot ≡ first + suc slot = omega arith in
    let stays : held' first ≡ held first = others first (λ e. omega (arith, e)) in
    let rest = set_at (first + 1) count slot number held held' (omega (arith, lt)) (ap held' same ∙ here)
    (λ other differs. others other (λ e. differs (e ∙ sym same))) in
    rw (stays, rest) refl

differs_eq : (m n : ℕ) → (m ≡ n → ⊥) → nat_eq m n ≡ false
differs_eq m n differs = grind (arith, nat_tests)

-- An empty map has no number for a slot.
pub none_held : {S : Type 0} (m : HashMap ℕ ℕ S) → m.entries ≡ [] → (slot : ℕ) → get nat_eq m slot ≡ None
none_held m none slot = rw none refl

-- A slot's number is the one that was read for it.
pub read_of : (count slot : ℕ) (held : ℕ → Option ℕ) (found : Option ℕ) (seen : List ℕ) → numbers 0 count held ≡ seen
    → slot < length seen → found ≡ held slot → or_zero found ≡ slice_index seen slot
read_of count slot held found seen is lt there =
    let many : length seen ≡ count = sym (ap (λ (l : List ℕ). length l) is) ∙ as_many 0 count held in
    let same : 0 + slot ≡ slot = omega arith in
    ap or_zero there ∙ ap (λ (n : ℕ). or_zero (held n)) (sym same)
    ∙ sym (read_at 0 count slot held (omega (arith, lt, many))) ∙ ap (λ (l : List ℕ). slice_index l slot) is

-- Setting a slot's number in the map sets it in the list.
pub set_in : {S : Type 0} (count slot number : ℕ) (m n : HashMap ℕ ℕ S) (seen : List ℕ)
    → numbers 0 count (get nat_eq m) ≡ seen → slot < length seen → Updates nat_eq m n slot (Some number)
    → numbers 0 count (get nat_eq n) ≡ slice_set seen slot number
set_in count slot number m n seen is lt updates =
    let many : length seen ≡ count = sym (ap (λ (l : List ℕ). length l) is) ∙ as_many 0 count (get nat_eq m) in
    let same : 0 + slot ≡ slot = omega arith in
    set_at 0 count slot number (get nat_eq m) (get nat_eq n) (omega (arith, lt, many)) (ap (get nat_eq n) same
    ∙ updates.1) (λ other differs. updates.2 other (differs_eq slot other (λ e. differs (sym e ∙ sym same))))
    ∙ ap (λ (l : List ℕ). slice_set l slot number) is
