-- A device of which another one is a part: whatever it does, the part does as by itself.
use Rattle.std.specs.Prelude.{ℕ, ◌≡◌}
use Rattle.s370_walk.specs.declared.parts.Order.{Order}
use Rattle.s370_walk.specs.Hardware.{Machine}
use Rattle.s370_walk.specs.Walk.{Form, Setting, State, Fetching, Moving, Over, Reaches}

-- Each step of the whole is that step of its part.
pub record IsPartOf {D E : Type 0} (part : D → E) (whole : Machine D)
    (inner : Machine E) : Type 0 where
  pub answer : (d : D) (order : Order) → whole.answer d order ≡ inner.answer (part d) order
  pub started : (d : D) (order : Order)
      → part (whole.started d order) ≡ inner.started (part d) order
  pub done : (d : D) → whole.done d ≡ inner.done (part d)
  pub gives : (d : D) → whole.gives d ≡ inner.gives (part d)
  pub gave : (d : D) → part (whole.gave d) ≡ inner.gave (part d)
  pub took : (d : D) (byte : ℕ) → part (whole.took d byte) ≡ inner.took (part d) byte
  pub status : (d : D) → whole.status d ≡ inner.status (part d)
  pub finished : (d : D) → part (whole.finished d) ≡ inner.finished (part d)

-- the state of a walk, of which the part alone is seen
abbrev pub seen : {D E : Type 0} → (D → E) → State D → State E
seen part (Fetching spot m d) = Fetching spot m (part d)
seen part (Moving p m d) = Moving p m (part d)
seen part (Over end m d) = Over end m (part d)

-- the same program with another device
abbrev pub on_device : {D E : Type 0} → Setting D → Machine E → Setting E
on_device h machine = record { machine = machine; key = h.key; limit = h.limit; prefix = h.prefix }
