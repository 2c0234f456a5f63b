-- A queue in which each user is once.
use Rattle.std.proofs.Common.{◌≡◌, ◌+◌, ◌<◌, ◌≤◌, ◌||◌, ℕ, Bool, true, false, eqb, List, [], ◌∷◌}
use Rattle.std.proofs.Common.{◌++◌, length, refl, sym, ◌∙◌, subst, length-append, arith}
use Rattle.std.specs.Prelude.{if◌then◌else◌}
use Rattle.std.specs.List.{IsDistinct, list_any}
use Rattle.std.specs.List.Sorted.{IsPermutation}
use Rattle.std.proofs.lemmas.Bool.Decides.{eqb_tells}
use Rattle.std.proofs.lemmas.List.Sorted.{IsPermutation-append_comm, list_any-IsPermutation}
use Rattle.std.proofs.lemmas.Map.Steps.{length-le_from_distinct_below}
use Rattle.cp_dispatch.specs.Policy.{IsQueue, same_user}
use Rattle.cp_dispatch.specs.Turns.{at_end, without}
use Rattle.cp_dispatch.proofs.Who as who

-- whoever moves is in the queue once
pub moved : (xs ys : List ℕ) (most : ℕ) → IsPermutation xs ys → IsQueue xs most → IsQueue ys most
moved xs ys most h q = record {
  once = who.moved eqb eqb_tells xs ys h q.once;
  below = λ user stands. q.below user (list_any-IsPermutation (eqb user) xs ys h ∙ stands);
}

or_right : (a c : Bool) → c ≡ true → (a || c) ≡ true
or_right true c h = refl
or_right false c h = h

or_more : (a c e : Bool) → (c ≡ true → e ≡ true) → (a || c) ≡ true → (a || e) ≡ true
or_more true c e f h = refl
or_more false c e f h = f h

among_step : (b : Bool) (p : ℕ → Bool) (x : ℕ) (xs ys : List ℕ) → (list_any p ys ≡ true → list_any p xs ≡ true)
    → list_any p (if b then xs else x ∷ ys) ≡ true → list_any p (x ∷ xs) ≡ true
among_step true p x xs ys f h = or_right (p x) (list_any p xs) h
among_step false p x xs ys f h = or_more (p x) (list_any p ys) (list_any p xs) f h

among : (p q : ℕ → Bool) (xs : List ℕ) → list_any q (without p xs) ≡ true → list_any q xs ≡ true
among p q [] h = h
among p q (x ∷ xs) h = among_step (p x) q x xs (without p xs) (among p q xs) h

-- whoever goes leaves the others standing once
pub left : (p : ℕ → Bool) (xs : List ℕ) (most : ℕ) → IsQueue xs most → IsQueue (without p xs) most
left p xs most q = record {
  once = who.once_without eqb eqb_tells p xs q.once;
  below = λ user stands. q.below user (among p (eqb user) xs stands);
}

below_step : (b a : Bool) (user other most : ℕ) → eqb other user ≡ b → user < most → (a ≡ true → other < most)
    → (b || a) ≡ true → other < most
below_step true a user other most is small f h =
    subst (λ (n : ℕ). n < most) (sym (who.equal eqb eqb_tells other user is)) small
below_step false a user other most is small f h = f h

-- so does whoever comes
pub come : (user : ℕ) (xs : List ℕ) (most : ℕ) → user < most → IsQueue xs most
    → IsQueue (at_end (same_user user) user xs) most
come user xs most small q =
    let rest = without (eqb user) xs in
    record {
      once = who.once_more eqb eqb_tells user xs q.once;
      below = λ other stands. below_step (eqb other user) (list_any (eqb other) rest) user other most refl small
          ((left (eqb user) xs most q).below other)
          (list_any-IsPermutation (eqb other) (user ∷ rest) (rest ++ user ∷ [])
          (IsPermutation-append_comm (user ∷ []) rest) ∙ stands);
    }

-- no more are there than there are
pub fits : (xs : List ℕ) (most : ℕ) → IsQueue xs most → length xs ≤ most
fits xs most q = length-le_from_distinct_below xs most q.once q.below

-- so one more has room
pub room : (user : ℕ) (xs : List ℕ) (most : ℕ) → user < most → IsQueue xs most
    → length (without (same_user user) xs) < most
room user xs most small q = omega (
  arith,
  fits (at_end (same_user user) user xs) most (come user xs most small q),
  length-append (without (eqb user) xs) (user ∷ []),
)

-- nobody is there
pub empty : (most : ℕ) → IsQueue [] most
unfolding IsDistinct
empty most = record { once = tt; below = λ user stands. cc }
