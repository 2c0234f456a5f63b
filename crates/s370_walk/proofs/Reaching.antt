-- How walks go on, and that they end in one way.
use Rattle.std.specs.Prelude.{ℕ, zero, suc, ◌+◌, ◌-◌, ◌≡◌, ◌≤◌, refl, Bool}
use Rattle.std.proofs.Common.{sym, ◌∙◌, ap, arith, inl, inr, ◌⊎◌}
use Rattle.s370_walk.specs.declared.parts.Ending.{Ending}
use Rattle.s370_walk.specs.declared.parts.Order.{Order}
use Rattle.s370_store.specs.Memory.{Memory}
use Rattle.s370_walk.specs.Short.{IsShort}
use Rattle.s370_walk.specs.Stuck.{IsStuck}
use Rattle.s370_walk.specs.Walk.{Form, Setting, State, Over, next, walk, Reaches, Written, live}

module _ {D : Type 0} (form : Form) (h : Setting D) where
  pub walk-more : (m n : ℕ) (s : State D) → walk form h (m + n) s ≡ walk form h n (walk form h m s)
  walk-more zero n s = let e : zero + n ≡ n = omega arith in ap (λ k. walk form h k s) e
  walk-more (suc m) n s = let e : suc m + n ≡ suc (m + n) = omega arith in ap (λ k. walk form h k s) e
      ∙ walk-more m n (next form h s)

  pub reach_here : (s : State D) → Reaches form h s s
  reach_here s = record { steps = 0; comes = refl }

  pub reach_next : (s t : State D) → next form h s ≡ t → Reaches form h s t
  reach_next s t e = record { steps = 1; comes = e }

  pub reach_on : {r s t : State D} → Reaches form h r s → Reaches form h s t → Reaches form h r t
  reach_on {r = r} {s = s} {t = t} a b =
      record {
        steps = a.steps + b.steps;
        comes = walk-more a.steps b.steps r ∙ ap (walk form h b.steps) a.comes
            ∙ b.comes;
      }

  -- a walk that is over stays over
  pub walk-over : (n : ℕ) (e : Ending) (m : Memory) (d : D) → walk form h n (Over e m d) ≡ Over e m d
  walk-over zero e m d = refl
  walk-over (suc n) e m d = walk-over n e m d

  pub later_is_same : (s : State D) (j k : ℕ) (e : Ending) (m : Memory) (d : D) → walk form h j s ≡ Over e m d → j ≤ k
      → walk form h k s ≡ Over e m d
  later_is_same s j k e m d a le =
      let split : k ≡ j + (k - j) = omega arith in
      ap (λ n. walk form h n s) split ∙ walk-more j (k - j) s ∙ ap (walk form h (k - j)) a ∙ walk-over (k - j) e m d

  -- The end that a walk comes to is the only one.
  pub one_end : (s : State D) (e f : Ending) (m n : Memory) (d g : D) → Reaches form h s (Over e m d)
      → Reaches form h s (Over f n g) → ◌≡◌ {A = State D} (Over e m d) (Over f n g)
  one_end s e f m n d g a b =
      elim (order a.steps b.steps) [
        | inl le ↦ sym (later_is_same s a.steps b.steps e m d a.comes le) ∙ b.comes
        | inr le ↦ sym a.comes ∙ later_is_same s b.steps a.steps f n g b.comes le
      ]
    where
      order : (i j : ℕ) → (i ≤ j) ⊎ (j ≤ i)
      order i j = grind arith

-- A walk goes on by one step.
pub reach_then : {D : Type 0} {form : Form} {h : Setting D} {r s t : State D} → Reaches form h r s → next form h s ≡ t
    → Reaches form h r t
reach_then {form = form} {h = h} {s = s} {t = t} a e = reach_on form h a (reach_next form h s t e)

-- A walk begins with one step.
pub reach_from : {D : Type 0} {form : Form} {h : Setting D} {r s t : State D} → next form h r ≡ s → Reaches form h s t
    → Reaches form h r t
reach_from {form = form} {h = h} {r = r} {s = s} e a = reach_on form h (reach_next form h r s e) a

-- What a walk is stuck at later, it is stuck at.
pub stuck_on : {D : Type 0} {w : Written} {h : Setting D} {present : ℕ → Bool} {r s : State D} {page : ℕ}
    → Reaches (live w) h r s → IsStuck w h present s page → IsStuck w h present r page
stuck_on {w = w} {h = h} a b = record {
  state = b.state;
  comes = reach_on (live w) h a b.comes;
  asked = b.asked;
  away = b.away;
}

-- A walk that comes to a command later that needs memory, comes to it.
pub short_on : {D : Type 0} {form : Form} {h : Setting D} {needs : D → Order → Bool} {r s : State D}
    → Reaches form h r s → IsShort form h needs s → IsShort form h needs r
short_on {form = form} {h = h} a b =
    record {
      spot = b.spot;
      memory = b.memory;
      device = b.device;
      word = b.word;
      comes = reach_on form h a b.comes;
      text = b.text;
      good = b.good;
      command = b.command;
      needed = b.needed;
    }
