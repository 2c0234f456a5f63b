-- Who is in a line, each once, as some come and go and turns are dealt.
use Rattle.std.proofs.Common.{◌≡◌, ◌||◌, ◌++◌, ◌⊎◌, inl, inr, Bool, true, false, List, [], ◌∷◌, Option, Some, None}
use Rattle.std.proofs.Common.{refl, ap, sym, ◌∙◌, subst, append_assoc}
use Rattle.std.specs.Prelude.{if◌then◌else◌}
use Rattle.std.specs.List.{AllByRecursion, IsDistinct, list_any}
use Rattle.std.specs.List.Sorted.{IsPermutation}
use Rattle.std.proofs.lemmas.List.Folds.{list_any-append}
use Rattle.std.proofs.lemmas.List.Sorted.{IsPermutation-append_comm, list_any-IsPermutation}
use Rattle.std.proofs.lemmas.Map.Keys.{IsDistinct-IsPermutation, IsDistinct-cons, IsDistinct-head, IsDistinct-tail}
use Rattle.cp_dispatch.specs.Policy.{HasJust}
use Rattle.cp_dispatch.specs.Turns.{IsDealt, at_end, without}

-- a test that tells what is equal
abbrev pub Tells : {X : Type 0} → (X → X → Bool) → Type 0
Tells {X} same = (x y : X) → ((same x y ≡ true) × (x ≡ y)) ⊎ ((same x y ≡ false) × (x ≡ y → ⊥))

kept_step : {X : Type 0} (P : X → Type 0) (b : Bool) (x : X) (xs ys : List X) → P x → AllByRecursion P xs
    → AllByRecursion P ys → AllByRecursion P (if b then xs else x ∷ ys)
kept_step P true x xs ys h all left = all
kept_step P false x xs ys h all left = (h, left)

kept : {X : Type 0} (P : X → Type 0) (p : X → Bool) (xs : List X) → AllByRecursion P xs
    → AllByRecursion P (without p xs)
kept P p [] h = tt
kept P p (x ∷ xs) h = kept_step P (p x) x xs (without p xs) h.0 h.1 (kept P p xs h.1)

none_any : {X : Type 0} (p : X → Bool) (xs : List X) → AllByRecursion (λ y. p y ≡ false) xs → list_any p xs ≡ false
none_any p [] h = refl
none_any p (x ∷ xs) h = rw h.0 (none_any p xs h.1)

or_none : (b : Bool) → (b || (false || false)) ≡ b
or_none true = refl
or_none false = refl

or_last : (b : Bool) → (b || (true || false)) ≡ true
or_last true = refl
or_last false = refl

-- those who are passed go to the end, and after them the one who had the turn
turns : {X : Type 0} (before : List X) (one : X) (after : List X)
    → IsPermutation (before ++ one ∷ after) (after ++ (before ++ one ∷ []))
turns {X} before one after =
    let same : (before ++ one ∷ []) ++ after ≡ before ++ one ∷ after = append_assoc before (one ∷ []) after in
    subst (λ (l : List X). IsPermutation l (after ++ (before ++ one ∷ []))) same
    (IsPermutation-append_comm (before ++ one ∷ []) after)

module _ {X : Type 0} (same : X → X → Bool) (tells : Tells same) where
  -- Equality is the same both ways.
  pub flips : (x y : X) → same x y ≡ same y x
  flips x y = elim (tells x y) [
    | inl is ↦ ap (λ (z : X). same x z) (sym is.1) ∙ ap (λ (z : X). same z x) is.1
    | inr not ↦ elim (tells y x) [
      | inl back ↦ absurd (not.1 (sym back.1))
      | inr back ↦ not.0 ∙ sym back.0
    ]
  ]

  -- Those that are tested to be equal are.
  pub equal : (x y : X) → same x y ≡ true → x ≡ y
  equal x y e = elim (tells x y) [
    | inl is ↦ is.1
    | inr not ↦ absurd (cc)
  ]

  -- Nobody is in an empty line.
  pub nobody : (is : X → Bool) → ((x : X) → is x ≡ false) → HasJust same is []
  unfolding IsDistinct
  nobody is none = record { who = λ x. sym (none x); once = tt }

  -- A line stays right while the same are to be in it.
  pub stays : (was is : X → Bool) (line : List X) → ((x : X) → is x ≡ was x) → HasJust same was line
      → HasJust same is line
  stays was is line alike h = record { who = λ x. h.who x ∙ sym (alike x); once = h.once }

  once_step : (b : Bool) (x : X) (xs ys : List X) → IsDistinct same xs → AllByRecursion (λ y. same x y ≡ false) ys
      → IsDistinct same ys → IsDistinct same (if b then xs else x ∷ ys)
  once_step true x xs ys all apart left = all
  once_step false x xs ys all apart left = IsDistinct-cons same x ys apart left

  -- Whoever goes leaves the others there once.
  pub once_without : (p : X → Bool) (xs : List X) → IsDistinct same xs → IsDistinct same (without p xs)
  once_without p [] h = h
  once_without p (x ∷ xs) h = once_step (p x) x xs (without p xs) (IsDistinct-tail same x xs h)
      (kept (λ y. same x y ≡ false) p xs (IsDistinct-head same x xs h))
      (once_without p xs (IsDistinct-tail same x xs h))

  gone_step : (b : Bool) (one x : X) (xs ys : List X) → same one x ≡ b → AllByRecursion (λ y. same x y ≡ false) xs
      → AllByRecursion (λ y. same one y ≡ false) ys
      → AllByRecursion (λ y. same one y ≡ false) (if b then xs else x ∷ ys)
  gone_step true one x xs ys is apart left =
      subst (λ (z : X). AllByRecursion (λ y. same z y ≡ false) xs) (sym (equal one x is)) apart
  gone_step false one x xs ys is apart left = (is, left)

  -- Whoever has gone is in the line no more.
  pub gone : (one : X) (xs : List X) → IsDistinct same xs
      → AllByRecursion (λ y. same one y ≡ false) (without (same one) xs)
  gone one [] h = tt
  gone one (x ∷ xs) h = gone_step (same one x) one x xs (without (same one) xs) refl (IsDistinct-head same x xs h)
      (gone one xs (IsDistinct-tail same x xs h))

  other_step : (b : Bool) (u one x : X) (xs ys : List X) → same one x ≡ b → same u one ≡ false
      → list_any (same u) ys ≡ list_any (same u) xs
      → list_any (same u) (if b then xs else x ∷ ys) ≡ list_any (same u) (x ∷ xs)
  other_step true u one x xs ys is other alike =
      let none : same u x ≡ false = subst (λ (z : X). same u z ≡ false) (equal one x is) other in
      ap (λ (b : Bool). b || list_any (same u) xs) (sym none)
  other_step false u one x xs ys is other alike = ap (λ (b : Bool). same u x || b) alike

  -- the others are in the line whoever goes
  other : (u one : X) (xs : List X) → same u one ≡ false
      → list_any (same u) (without (same one) xs) ≡ list_any (same u) xs
  other u one [] h = refl
  other u one (x ∷ xs) h = other_step (same one x) u one x xs (without (same one) xs) refl h (other u one xs h)

  -- Whoever goes is in the line no more, and the others are.
  pub went : (was is : X → Bool) (one : X) (line : List X) → is one ≡ false
      → ((u : X) → (u ≡ one → ⊥) → is u ≡ was u) → HasJust same was line
      → HasJust same is (without (same one) line)
  went was is one line off others h = record {
    who = λ u. elim (tells u one) [
      | inl alike ↦ (
          subst (λ (z : X). list_any (same z) (without (same one) line) ≡ is z) (sym alike.1)
          (none_any (same one) (without (same one) line) (gone one line h.once) ∙ sym off))
      | inr not ↦ other u one line not.0 ∙ (h.who u ∙ sym (others u not.1))
    ];
    once = once_without (same one) line h.once;
  }

  -- Who moves in a line is there once.
  pub moved : (xs ys : List X) → IsPermutation xs ys → IsDistinct same xs → IsDistinct same ys
  moved xs ys h once = IsDistinct-IsPermutation same flips xs ys h once

  -- Whoever comes is at the end, and the others are there once.
  pub once_more : (one : X) (line : List X) → IsDistinct same line → IsDistinct same (at_end (same one) one line)
  once_more one line once =
      let rest = without (same one) line in
      moved (one ∷ rest) (rest ++ one ∷ []) (IsPermutation-append_comm (one ∷ []) rest)
      (IsDistinct-cons same one rest (gone one line once) (once_without (same one) line once))

  -- Whoever comes is in the line, and the others are as before.
  pub came : (was is : X → Bool) (one : X) (line : List X) → is one ≡ true
      → ((u : X) → (u ≡ one → ⊥) → is u ≡ was u) → HasJust same was line
      → HasJust same is (at_end (same one) one line)
  came was is one line on others h =
      let rest = without (same one) line in
      record {
        who = λ u. list_any-append (same u) rest (one ∷ []) ∙ elim (tells u one) [
          | inl alike ↦ (let all : is u ≡ true = ap is alike.1 ∙ on in
              ap (λ (b : Bool). list_any (same u) rest || (b || false)) alike.0
              ∙ (or_last (list_any (same u) rest) ∙ sym all))
          | inr not ↦ (let before = other u one line not.0 ∙ (h.who u ∙ sym (others u not.1)) in
              ap (λ (b : Bool). list_any (same u) rest || (b || false)) not.0
              ∙ (ap (λ (b : Bool). b || (false || false)) before ∙ or_none (is u)))
        ];
        once = once_more one line h.once;
      }

  -- Turns that are dealt leave in the line who was there.
  pub dealt : (is ready : X → Bool) (old : List X) (taken : Option X) (new : List X)
      → IsDealt ready old taken new → HasJust same is old → HasJust same is new
  dealt is ready old (Some one) new d h =
      let turned : IsPermutation (d.before ++ one ∷ d.after) (d.after ++ (d.before ++ one ∷ [])) =
      turns d.before one d.after in
      let alike : IsPermutation old new =
      subst (λ (l : List X). IsPermutation old l) (sym d.turned)
      (subst (λ (l : List X). IsPermutation l (d.after ++ (d.before ++ one ∷ []))) (sym d.split) turned) in
      record {
        who = λ u. sym (list_any-IsPermutation (same u) old new alike) ∙ h.who u;
        once = moved old new alike h.once;
      }
  dealt is ready old None new d h = subst (λ (l : List X). HasJust same is l) (sym d.1) h
