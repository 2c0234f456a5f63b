-- Nobody waits for ever.
use Rattle.std.proofs.Common.{◌≡◌, ◌+◌, ◌<◌, ◌≤◌, ◌⊎◌, inl, inr, ◌||◌, ℕ, zero, suc, Bool, true, false, List, [], ◌∷◌}
use Rattle.std.proofs.Common.{◌++◌, length, Option, Some, None, refl, ap, sym, ◌∙◌, subst, append_assoc, length-append}
use Rattle.std.proofs.Common.{arith}
use Rattle.std.specs.Prelude.{if◌then◌else◌}
use Rattle.std.specs.List.{list_any}
use Rattle.cp_dispatch.specs.Turns.{BringsForward, IsDealt, IsTaken, StandsWithin, at_end, without}
use Rattle.cp_dispatch.specs.Fairness.{Call, Deal, Come, Go, GivesEach, HasTurn, IsCalls, IsFair, IsReadyThroughout}
use Rattle.cp_dispatch.specs.Fairness.{deals}

first_same : {X : Type 0} (x y : X) (xs ys : List X) → x ∷ xs ≡ y ∷ ys → x ≡ y
first_same x y xs ys h = cc

rest_same : {X : Type 0} (x y : X) (xs ys : List X) → x ∷ xs ≡ y ∷ ys → xs ≡ ys
rest_same x y xs ys h = cc

not_ready : (b a : Bool) → (b || a) ≡ false → b ≡ true → ⊥
not_ready true a h k = cc
not_ready false a h k = cc

others_pass : (b a : Bool) → (b || a) ≡ false → a ≡ false
others_pass true a h = cc
others_pass false a h = h

-- someone who is ready is in no line in which nobody is
stands_ready : {X : Type 0} (ready : X → Bool) (before : List X) (one : X) (after : List X)
    → list_any ready (before ++ one ∷ after) ≡ false → ready one ≡ true → ⊥
stands_ready ready [] one after h k = not_ready (ready one) (list_any ready after) h k
stands_ready ready (x ∷ before) one after h k = stands_ready ready before one after
    (others_pass (ready x) (list_any ready (before ++ one ∷ after)) h) k

-- what is between the one who is taken and another who is ready
record Between {X : Type 0} (after : List X) (one : X) (before later : List X) : Type 0 where
  pub between : List X
  pub left : after ≡ between ++ one ∷ later
  pub fewer : length between < length before

wider : {X : Type 0} (after : List X) (one x : X) (before later : List X) → Between after one before later
    → Between after one (x ∷ before) later
wider after one x before later b = record { between = b.between; left = b.left; fewer = omega (arith, b.fewer) }

widened : {X : Type 0} (same : Type 0) (after : List X) (one x : X) (before later : List X) → same
    ⊎ Between after one before later → same ⊎ Between after one (x ∷ before) later
widened same after one x before later (inl e) = inl e
widened same after one x before later (inr b) = inr (wider after one x before later b)

-- the first who is ready is that one, or is before
behind : {X : Type 0} (ready : X → Bool) (passed : List X) (taken : X) (after before : List X) (one : X)
    (later : List X)
    → passed ++ taken ∷ after ≡ before ++ one ∷ later → list_any ready passed ≡ false → ready one ≡ true → (taken ≡ one)
    ⊎ Between after one before later
behind ready [] taken after [] one later h misses is = inl (first_same taken one after later h)
behind ready [] taken after (y ∷ before) one later h misses is = inr
    (record { between = before; left = rest_same taken y after (before ++ one ∷ later) h; fewer = omega arith })
behind ready (x ∷ passed) taken after [] one later h misses is = absurd
    (not_ready (ready x) (list_any ready passed) misses (ap ready (first_same x one (passed ++ taken ∷ after) later h)
    ∙ is))
behind ready (x ∷ passed) taken after (y ∷ before) one later h misses is =
    widened (taken ≡ one) after one y before later (behind ready passed taken after before one later
    (rest_same x y (passed ++ taken ∷ after) (before ++ one ∷ later) h)
    (others_pass (ready x) (list_any ready passed) misses) is)

-- who was between is before from then on
nearer : {X : Type 0} (new after passed : List X) (taken one : X) (before later : List X)
    → new ≡ after ++ (passed ++ taken ∷ []) → (taken ≡ one) ⊎ Between after one before later → (Some taken ≡ Some one)
    ⊎ StandsWithin one new (length before)
nearer new after passed taken one before later turned (inl e) = inl (ap Some e)
nearer new after passed taken one before later turned (inr b) = inr (record {
  before = b.between;
  after = later ++ (passed ++ taken ∷ []);
  split = turned ∙ (ap (λ l. l ++ (passed ++ taken ∷ [])) b.left
      ∙ append_assoc b.between (one ∷ later) (passed ++ taken ∷ []));
  near = b.fewer;
})

-- a turn that is dealt brings forward whoever is ready
pub forward : {X : Type 0} (ready : X → Bool) (old : List X) (taken : Option X) (new : List X)
    → IsDealt ready old taken new → BringsForward ready old taken new
forward ready old None new dealt = λ one before after split is. absurd
    (stands_ready ready before one after (ap (list_any ready) (sym split) ∙ dealt.0) is)
forward ready old (Some taken) new dealt = λ one before after split is.
    nearer new dealt.after dealt.before taken one before after dealt.turned
    (behind ready dealt.before taken dealt.after before one after (sym dealt.split ∙ split) dealt.passed is)

-- whoever is within so many is within more
at_same : {X : Type 0} (one : X) (line : List X) (bound more : ℕ) → bound ≤ more → StandsWithin one line bound
    → StandsWithin one line more
at_same one line bound more h s = record {
  before = s.before;
  after = s.after;
  split = s.split;
  near = omega (arith, h, s.near);
}

one_on : {X : Type 0} (one x : X) (line : List X) (bound : ℕ) → StandsWithin one line bound
    → StandsWithin one (x ∷ line) (suc bound)
one_on one x line bound s = record {
  before = x ∷ s.before;
  after = s.after;
  split = ap (λ l. x ∷ l) s.split;
  near = omega (arith, s.near);
}

go_first : {X : Type 0} (b : Bool) (one : X) (after left : List X) → b ≡ false
    → StandsWithin one (if b then after else one ∷ left) 1
go_first true one after left h = cc
go_first false one after left h = record { before = []; after = left; split = refl; near = omega arith }

go_on : {X : Type 0} (b : Bool) (one x : X) (before after left : List X) → StandsWithin one left (length before + 1)
    → StandsWithin one (if b then before ++ one ∷ after else x ∷ left) (length before + 2)
go_on true one x before after left s = record { before = before; after = after; split = refl; near = omega arith }
go_on false one x before after left s = at_same one (x ∷ left) (suc (length before + 1)) (length before + 2)
    (omega arith) (one_on one x left (length before + 1) s)

-- another who goes leaves one where one is, or nearer
gone : {X : Type 0} (p : X → Bool) (before : List X) (one : X) (after : List X) → p one ≡ false
    → StandsWithin one (without p (before ++ one ∷ after)) (length before + 1)
gone p [] one after h = go_first (p one) one after (without p after) h
gone p (x ∷ before) one after h = at_same one (without p (x ∷ before ++ one ∷ after)) (length before + 2)
    (length (x ∷ before) + 1) (omega arith) (go_on (p x) one x before after (without p (before ++ one ∷ after))
    (gone p before one after h))

-- so does another who comes
pushed : {X : Type 0} (one x : X) (line : List X) (bound : ℕ) → StandsWithin one line bound
    → StandsWithin one (line ++ x ∷ []) bound
pushed one x line bound s = record {
  before = s.before;
  after = s.after ++ x ∷ [];
  split = ap (λ l. l ++ x ∷ []) s.split
      ∙ append_assoc s.before (one ∷ s.after) (x ∷ []);
  near = s.near;
}

stays : {X : Type 0} (p : X → Bool) (one : X) (line : List X) (bound : ℕ) → p one ≡ false → StandsWithin one line bound
    → StandsWithin one (without p line) bound
stays p one line bound h s = at_same one (without p line) (length s.before + 1) bound (omega (arith, s.near))
    (subst (λ l. StandsWithin one (without p l) (length s.before + 1)) (sym s.split) (gone p s.before one s.after h))

nobody_within : {X : Type 0} (one : X) (line : List X) → StandsWithin one line 0 → ⊥
nobody_within one line s = omega (arith, s.near)

deal_on : {X : Type 0} (one : X) (line : List X) (taken : Option X) (bound : ℕ) (later : Type 0) → (taken ≡ Some one)
    ⊎ StandsWithin one line bound → (StandsWithin one line bound → later) → (taken ≡ Some one) ⊎ later
deal_on one line taken bound later (inl e) f = inl e
deal_on one line taken bound later (inr s) f = inr (f s)

-- whoever is within so many turns, and is ready throughout, has one of them
pub fair : {X : Type 0} (same : X → X → Bool) → IsFair same
fair same one old new [] calls ready stands = nobody_within one old stands
fair same one old new (Deal is_ready taken ∷ calls) runs ready stands =
    deal_on one runs.0 taken (length stands.before) (HasTurn one calls)
    (forward is_ready old taken runs.0 runs.1 one stands.before stands.after stands.split ready.0)
    (λ s. fair same one runs.0 new calls runs.2 ready.1 (at_same one runs.0 (length stands.before) (deals calls)
    (omega (arith, stands.near)) s))
fair same one old new (Come x ∷ calls) runs ready stands = fair same one (at_end (same x) x old) new calls runs ready.1
    (pushed one x (without (same x) old) (deals calls) (stays (same x) one old (deals calls) ready.0 stands))
fair same one old new (Go x ∷ calls) runs ready stands = fair same one (without (same x) old) new calls runs ready.1
    (stays (same x) one old (deals calls) ready.0 stands)

-- of as many turns as there are in the line, each who is ready throughout has one
pub gives_each : {X : Type 0} (same : X → X → Bool) → GivesEach same
gives_each same one before after new calls runs ready enough =
    fair same one (before ++ one ∷ after) new calls runs ready
    (record {
      before = before;
      after = after;
      split = refl;
      near = omega (arith, enough, length-append before (one ∷ after));
    })
