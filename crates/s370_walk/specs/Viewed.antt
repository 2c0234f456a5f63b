-- A smaller machine that stands for a device: a walk over it does to storage what a walk over the
-- device does.
use Rattle.std.specs.Prelude.{ℕ, ◌≡◌}
use Rattle.s370_walk.specs.declared.parts.Order.{Order}
use Rattle.s370_walk.specs.Hardware.{Machine}
use Rattle.s370_walk.specs.Walk.{Setting, State, Fetching, Moving, Over}

-- What is seen of a device answers, gives, and ends as the device does, and goes on to what is seen
-- of it then.
pub record IsViewed {D E : Type 0} (machine : Machine D) (small : Machine E)
    (view : D → E) : Type 0 where
  pub answer : (d : D) (o : Order) → small.answer (view d) o ≡ machine.answer d o
  pub started : (d : D) (o : Order) → small.started (view d) o ≡ view (machine.started d o)
  pub done : (d : D) → small.done (view d) ≡ machine.done d
  pub gives : (d : D) → small.gives (view d) ≡ machine.gives d
  pub gave : (d : D) → small.gave (view d) ≡ view (machine.gave d)
  pub took : (d : D) (b : ℕ) → small.took (view d) b ≡ view (machine.took d b)
  pub status : (d : D) → small.status (view d) ≡ machine.status d
  pub finished : (d : D) → small.finished (view d) ≡ view (machine.finished d)

-- the same program, for another machine
abbrev pub setting_for : {D E : Type 0} → Machine E → Setting D → Setting E
setting_for small h = record { machine = small; key = h.key; limit = h.limit; prefix = h.prefix }

-- the same place and storage, with what is seen of the device
abbrev pub viewed : {D E : Type 0} → (D → E) → State D → State E
viewed view (Fetching spot m d) = Fetching spot m (view d)
viewed view (Moving p m d) = Moving p m (view d)
viewed view (Over e m d) = Over e m (view d)
