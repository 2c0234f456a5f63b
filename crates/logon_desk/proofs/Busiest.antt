-- The search for the busiest address.
use Rattle.std.proofs.Common.{◌≡◌, ◌+◌, ◌<◌, ◌≤◌, ℕ, IfNone, IfSome, List, Option, Some, None, Bool, true, false}
use Rattle.std.proofs.Common.{get_or, length, sym, subst, arith, below_more, zero, suc, ◌∙◌}
use Rattle.logon_desk.specs.Connection.{gone}
use Rattle.logon_desk.specs.Strangers.{is_stranger, strangers_from}
use Rattle.logon_desk.specs.declared.connection.Connection.{Connection}

-- whoever was found is one of those so far from whose address most have come, and of these the latest
pub record SoFar (connections : List Connection) (place : ℕ) (found : Option ℕ) (most latest : ℕ) : Type 0 where
  pub within : IfSome found (λ (c : ℕ). c < length connections)
  pub stranger : IfSome found (λ (c : ℕ). is_stranger (get_or connections c gone) ≡ true)
  pub count : IfSome found (λ (c : ℕ). strangers_from connections (get_or connections c gone).address ≡ most)
  pub none : IfNone found ((k : ℕ) → k < place → is_stranger (get_or connections k gone) ≡ false)
  pub due : IfSome found (λ (c : ℕ). (get_or connections c gone).patience.deadline ≡ latest)
  pub zero : IfNone found (most + latest ≡ 0)
  pub fewer : (k : ℕ) → k < place → is_stranger (get_or connections k gone) ≡ true
      → strangers_from connections (get_or connections k gone).address ≤ most
  pub earlier : (k : ℕ) → k < place → is_stranger (get_or connections k gone) ≡ true
      → strangers_from connections (get_or connections k gone).address ≡ most
      → (get_or connections k gone).patience.deadline ≤ latest

abbrev IsFewer : List Connection → ℕ → ℕ → Type 0
IsFewer connections most k = is_stranger (get_or connections k gone) ≡ true
    → strangers_from connections (get_or connections k gone).address ≤ most

abbrev IsEarlier : List Connection → ℕ → ℕ → ℕ → Type 0
IsEarlier connections most latest k = is_stranger (get_or connections k gone) ≡ true
    → strangers_from connections (get_or connections k gone).address ≡ most
    → (get_or connections k gone).patience.deadline ≤ latest

-- The search for the busiest address takes a stranger whose address has more of them, or as many and whose deadline
-- is as late.
pub found_more : (connections : List Connection) (place : ℕ) (found : Option ℕ) (most latest count deadline : ℕ)
    → SoFar connections place found most latest → place < length connections
    → is_stranger (get_or connections place gone) ≡ true
    → count ≡ strangers_from connections (get_or connections place gone).address
    → deadline ≡ (get_or connections place gone).patience.deadline → most ≤ count
    → (count ≡ most → latest ≤ deadline) → SoFar connections (place + 1) (Some place) count deadline
found_more connections place found most latest count deadline so within is counts ends le later = record {
  within = within;
  stranger = is;
  count = sym counts;
  none = tt;
  due = sym ends;
  zero = tt;
  fewer = below_more (IsFewer connections count) place (λ k h t. let f = so.fewer k h t in omega arith)
      (λ t. omega arith);
  earlier = below_more (IsEarlier connections count deadline) place
      (λ k h t e. let f = so.fewer k h t in
      let same : count ≡ most = omega arith in
      let g = so.earlier k h t (e ∙ same) in
      let l = later same in omega arith)
      (λ t e. omega arith);
}

kept_none : (connections : List Connection) (place : ℕ) (found : Option ℕ) (most latest : ℕ)
    → IfNone found (most + latest ≡ 0) → 0 < most + latest
    → IfNone found ((k : ℕ) → k < place + 1 → is_stranger (get_or connections k gone) ≡ false)
kept_none connections place None most latest none h = absurd (omega arith)
kept_none connections place (Some c) most latest none h = tt

some_latest : (most latest count deadline : ℕ) → count ≤ most → (count ≡ most → deadline < latest) → 0 < most + latest
some_latest zero latest count deadline le earlier = let h = earlier (omega arith) in omega arith
some_latest (suc most) latest count deadline le earlier = omega arith

-- The search for the busiest address keeps what it has if the next has no more, and no later deadline.
pub kept_more : (connections : List Connection) (place : ℕ) (found : Option ℕ) (most latest count deadline : ℕ)
    → SoFar connections place found most latest
    → count ≡ strangers_from connections (get_or connections place gone).address
    → deadline ≡ (get_or connections place gone).patience.deadline → count ≤ most → (count ≡ most → deadline < latest)
    → SoFar connections (place + 1) found most latest
kept_more connections place found most latest count deadline so counts ends le earlier = record {
  within = so.within;
  stranger = so.stranger;
  count = so.count;
  none = kept_none connections place found most latest so.zero (some_latest most latest count deadline le earlier);
  due = so.due;
  zero = so.zero;
  fewer = below_more (IsFewer connections most) place so.fewer (λ t. omega arith);
  earlier = below_more (IsEarlier connections most latest) place so.earlier
      (λ t e. let h = earlier (omega arith) in omega arith);
}

passed_none : (connections : List Connection) (place : ℕ) (found : Option ℕ)
    → is_stranger (get_or connections place gone) ≡ false
    → IfNone found ((k : ℕ) → k < place → is_stranger (get_or connections k gone) ≡ false)
    → IfNone found ((k : ℕ) → k < place + 1 → is_stranger (get_or connections k gone) ≡ false)
passed_none connections place None is none = below_more (λ k. is_stranger (get_or connections k gone) ≡ false) place
    none is
passed_none connections place (Some c) is none = tt

not_both : (b : Bool) → b ≡ false → b ≡ true → ⊥
not_both b f t = cc

-- The search for the busiest address passes a connection that is no stranger.
pub passed_more : (connections : List Connection) (place : ℕ) (found : Option ℕ) (most latest : ℕ)
    → SoFar connections place found most latest → is_stranger (get_or connections place gone) ≡ false
    → SoFar connections (place + 1) found most latest
passed_more connections place found most latest so is = record {
  within = so.within;
  stranger = so.stranger;
  count = so.count;
  none = passed_none connections place found is so.none;
  due = so.due;
  zero = so.zero;
  fewer = below_more (IsFewer connections most) place so.fewer
      (λ t. absurd (not_both (is_stranger (get_or connections place gone)) is t));
  earlier = below_more (IsEarlier connections most latest) place so.earlier
      (λ t. absurd (not_both (is_stranger (get_or connections place gone)) is t));
}

-- The search goes on alike with equal values.
pub renamed : (connections : List Connection) (place : ℕ) (found other : Option ℕ) (most count latest later : ℕ)
    → other ≡ found → count ≡ most → later ≡ latest
    → SoFar connections place found most latest → SoFar connections place other count later
renamed connections place found other most count latest later f m l so =
    subst (λ (o : Option ℕ). SoFar connections place o count later) (sym f)
    (subst (λ (n : ℕ). SoFar connections place found n later) (sym m)
    (subst (λ (n : ℕ). SoFar connections place found most n) (sym l) so))
