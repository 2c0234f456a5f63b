-- The codes of parts, and those of what is made of them.
use Rattle.std.specs.Prelude.{ℕ, zero, suc, ◌+◌, ◌/◌, ◌%◌, ◌≡◌, ◌<◌, refl, Bool, true, false, List, [], ◌∷◌, ◌++◌}
use Rattle.std.specs.Prelude.{length, take, drop, get_or, slice_get, slice_index_or, Option, Some, None}
use Rattle.std.proofs.Common.{sym, ◌∙◌, ap, arith, append_assoc, take_at, drop_at}
use Rattle.std.proofs.lemmas.Option.{get_or_from_slice_get, slice_get_within}
use Rattle.saved_bytes.specs.Codes.{number, flag, bytes, optional, each, both, Same, IsCode}

same_front : (p q x y : List ℕ) → length p ≡ length q → p ++ x ≡ q ++ y → p ≡ q
same_front p q x y long e = sym (take_at p x (length q) long) ∙ ap (λ l. take (length q) l) e
    ∙ take_at q y (length q) refl

same_back : (p q x y : List ℕ) → length p ≡ length q → p ++ x ≡ q ++ y → x ≡ y
same_back p q x y long e = sym (drop_at p x (length q) long) ∙ ap (λ l. drop (length q) l) e
    ∙ drop_at q y (length q) refl

-- ---- parts

-- The bytes of a number are a code: it is read back, whatever follows it.
pub number_code : IsCode number
unfolding number
number_code a b x y e =
    let c = ap (λ l. get_or l 0 0) e in
    let d = ap (λ l. get_or l 1 0) e in
    let f = ap (λ l. get_or l 2 0) e in
    let g = ap (λ l. get_or l 3 0) e in
    let h = ap (λ l. get_or l 4 0) e in
    let i = ap (λ l. get_or l 5 0) e in
    let j = ap (λ l. get_or l 6 0) e in
    let k = ap (λ l. get_or l 7 0) e in
    record { this = omega (arith, c, d, f, g, h, i, j, k); rest = ap (λ l. drop 8 l) e }

-- A number has eight bytes.
pub number_long : (n : ℕ) → length (number n) ≡ 8
unfolding number
number_long n = refl

-- The byte of a flag is a code.
pub flag_code : IsCode flag
flag_code false false x y e = record { this = refl; rest = ap (λ l. drop 1 l) e }
flag_code false true x y e = absurd (omega (arith, ap (λ l. get_or l 0 0) e))
flag_code true false x y e = absurd (omega (arith, ap (λ l. get_or l 0 0) e))
flag_code true true x y e = record { this = refl; rest = ap (λ l. drop 1 l) e }

-- The bytes of a text with its length are a code.
pub bytes_code : IsCode bytes
unfolding number
bytes_code a b x y e =
    let long = number_code (length a) (length b) (a ++ x) (b ++ y) e in
    record { this = same_front a b x y long.this long.rest; rest = same_back a b x y long.this long.rest }

-- ---- what is made of parts

-- a part, and what is after it
pub first : {A : Type 0} (code : A → List ℕ) → IsCode code → (a b : A) (p q x y : List ℕ)
    → (code a ++ p) ++ x ≡ (code b ++ q) ++ y → Same a b (p ++ x) (q ++ y)
first code is a b p q x y e = is a b (p ++ x) (q ++ y) (sym (append_assoc (code a) p x) ∙ e ∙ append_assoc (code b) q y)

-- What may be absent has a code if it has one when it is there.
pub optional_code : {A : Type 0} (code : A → List ℕ) → IsCode code → IsCode (optional code)
optional_code code is None None x y e = record { this = refl; rest = ap (λ l. drop 1 l) e }
optional_code code is None (Some b) x y e = absurd (omega (arith, ap (λ l. get_or l 0 0) e))
optional_code code is (Some a) None x y e = absurd (omega (arith, ap (λ l. get_or l 0 0) e))
optional_code code is (Some a) (Some b) x y e =
    let same = is a b x y (ap (λ l. drop 1 l) e) in
    record { this = ap Some same.this; rest = same.rest }

-- A list has a code if each of its elements has one.
pub each_code : {A : Type 0} (code : A → List ℕ) → IsCode code → IsCode (each code)
each_code code is [] [] x y e = record { this = refl; rest = ap (λ l. drop 1 l) e }
each_code code is [] (b ∷ others) x y e = absurd (omega (arith, ap (λ l. get_or l 0 0) e))
each_code code is (a ∷ more) [] x y e = absurd (omega (arith, ap (λ l. get_or l 0 0) e))
each_code code is (a ∷ more) (b ∷ others) x y e =
    let one = first code is a b (each code more) (each code others) x y (ap (λ l. drop 1 l) e) in
    let back = each_code code is more others x y one.rest in
    record { this = ap (λ t. t ∷ more) one.this ∙ ap (λ t. b ∷ t) back.this; rest = back.rest }

-- A pair has a code if both of its parts have one.
pub both_code : {A B : Type 0} (one : A → List ℕ) (other : B → List ℕ) → IsCode one → IsCode other
    → IsCode (both one other)
both_code one other is are (a, c) (b, d) x y e =
    let front = first one is a b (other c) (other d) x y e in
    let back = are c d x y front.rest in
    record { this = ap (λ t. (t, c)) front.this ∙ ap (λ t. (b, t)) back.this; rest = back.rest }

-- what is reported by parts of which it can be made again
pub of_parts : {A B : Type 0} (code : A → List ℕ) → IsCode code → (parts : B → A) (made : A → B)
    → ((b : B) → made (parts b) ≡ b) → IsCode (λ b. code (parts b))
of_parts code is parts made again a b x y e =
    let same = is (parts a) (parts b) x y e in
    record { this = sym (again a) ∙ ap made same.this ∙ again b; rest = same.rest }

-- a whole code is one of one value
pub one_value : {A : Type 0} (code : A → List ℕ) → IsCode code → (a b : A) → code a ≡ code b → a ≡ b
one_value code is a b e = (is a b [] [] (ap (λ l. l ++ []) e)).this

-- ---- lists that are written one by one

pub each_drop : {A : Type 0} (code : A → List ℕ) (list : List A) (i : ℕ) (none : A) → i < length list
    → each code (drop i list) ≡ 1 ∷ (code (slice_index_or list i none) ++ each code (drop (i + 1) list))
each_drop code [] i none lt = absurd (omega arith)
each_drop code (a ∷ list) zero none lt = refl
each_drop code (a ∷ list) (suc i) none lt =
    let less : i < length list = omega arith in
    let e : suc i + 1 ≡ suc (i + 1) = omega arith in
    each_drop code list i none less ∙ ap (λ n. 1 ∷ (code (slice_index_or list i none) ++ each code (drop n (a ∷ list))))
    (sym e)

-- one more of them is written
pub each_on : {A : Type 0} (code : A → List ℕ) (out : List ℕ) (list : List A) (i : ℕ) (none : A) → i < length list
    → ((out ++ 1 ∷ []) ++ code (slice_index_or list i none)) ++ each code (drop (i + 1) list) ≡ out ++ each code
    (drop i list)
each_on code out list i none lt =
    append_assoc (out ++ 1 ∷ []) (code (slice_index_or list i none)) (each code (drop (i + 1) list))
    ∙ append_assoc out (1 ∷ []) (code (slice_index_or list i none) ++ each code (drop (i + 1) list))
    ∙ ap (λ l. out ++ l) (sym (each_drop code list i none lt))

-- one more of them is written, which was got by its index
pub each_got : {A : Type 0} (code : A → List ℕ) (out : List ℕ) (list : List A) (i : ℕ) (a : A)
    → slice_get list i ≡ Some a
    → ((out ++ 1 ∷ []) ++ code a) ++ each code (drop (i + 1) list) ≡ out ++ each code (drop i list)
each_got code out list i a e =
    ap (λ x. ((out ++ 1 ∷ []) ++ code x) ++ each code (drop (i + 1) list)) (sym (get_or_from_slice_get list i a a e))
    ∙ each_on code out list i a (slice_get_within list i a e)
