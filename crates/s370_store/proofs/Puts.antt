-- What a write leaves as it was.
use Rattle.std.proofs.Common.{◌≡◌, ◌≢◌, ℕ, ◌+◌, ◌-◌, ◌<◌, ◌≤◌, List, [], ◌++◌, length, get_or, take, drop, refl, ◌∙◌}
use Rattle.std.proofs.Common.{ap, arith, inl, inr}
use Rattle.std.proofs.lemmas.Bool.{cases_lt}
use Rattle.std.proofs.lemmas.List.{get_or-take, get_or-drop, get_or-append_right, get_or_append_left, length-take-le}
use Rattle.std.proofs.lemmas.List.{take-append-drop}
use Rattle.std.proofs.lemmas.Grind.{common_steps}
use Rattle.s370_store.specs.Access.{put}

-- Putting bytes inside storage changes no size.
pub length-put : (bytes xs : List ℕ) (start : ℕ) → start + length xs ≤ length bytes
    → length (put bytes start xs) ≡ length bytes
unfolding put
length-put bytes xs start h = grind (arith, common_steps)

-- Putting no bytes changes nothing.
pub put-nothing : (bytes : List ℕ) (start : ℕ) → put bytes start [] ≡ bytes
unfolding put
put-nothing bytes start = take-append-drop start bytes

-- Bytes before those that are put stay.
pub put_before : (bytes xs : List ℕ) (start a : ℕ) → start + length xs ≤ length bytes → a < start
    → get_or (put bytes start xs) a 0 ≡ get_or bytes a 0
unfolding put
put_before bytes xs start a h lt =
    let long : length (take start bytes) ≡ start = length-take-le start bytes (omega arith) in
    get_or_append_left (take start bytes) (xs ++ drop (length xs) (drop start bytes)) 0 a (omega arith)
    ∙ get_or-take start bytes a 0 lt

-- Bytes after those that are put stay.
pub put_after : (bytes xs : List ℕ) (start a : ℕ) → start + length xs ≤ length bytes → start + length xs ≤ a
    → get_or (put bytes start xs) a 0 ≡ get_or bytes a 0
unfolding put
put_after bytes xs start a h low =
    let long : length (take start bytes) ≡ start = length-take-le start bytes (omega arith) in
    let place : start + (length xs + (a - start - length xs)) ≡ a = omega arith in
    get_or-append_right (take start bytes) (xs ++ drop (length xs) (drop start bytes)) start a 0 long (omega arith)
    ∙ get_or-append_right xs (drop (length xs) (drop start bytes)) (length xs) (a - start) 0 refl (omega arith)
    ∙ get_or-drop (length xs) (drop start bytes) (a - start - length xs) 0
    ∙ get_or-drop start bytes (length xs + (a - start - length xs)) 0
    ∙ ap (λ k. get_or bytes k 0) place

-- a byte that a write has changed is one of those that it wrote
pub changed_within : (bytes xs : List ℕ) (start a : ℕ) → start + length xs ≤ length bytes
    → get_or (put bytes start xs) a 0 ≢ get_or bytes a 0 → (start ≤ a) × (a < start + length xs)
changed_within bytes xs start a h changed =
    elim (cases_lt a start) [
      | inl before ↦ absurd (changed (put_before bytes xs start a h before))
      | inr low ↦ (elim (cases_lt a (start + length xs)) [
        | inl high ↦ (low, high)
        | inr after ↦ absurd (changed (put_after bytes xs start a h after))
      ])
    ]
