-- What holds of each event and the same one holds of any two that ask the same.
use Rattle.std.proofs.Common.{◌≡◌, ℕ, List, Bor, subst, sym}
use Rattle.machine_devices.specs.Events.{IsSameEvent}
use Rattle.machine_devices.specs.declared.event.Event.{Event}
use Rattle.machine_devices.specs.declared.event.Event.TheVariants.{Run, Line, Tick, Deck, Serve, Transfer}

-- what holds of each event and the same one
pub record OfSame (P : Event → Event → Type 0) : Type 0 where
  pub run : (user units : ℕ) → P (Run user units) (Run user units)
  pub line : (user : ℕ) (typed text : Bor (List ℕ)) → text.now ≡ typed.now → P (Line user typed) (Line user text)
  pub tick : (user : ℕ) → P (Tick user) (Tick user)
  pub deck : (user : ℕ) (cards deck : Bor (List (List ℕ))) → deck.now ≡ cards.now → P (Deck user cards) (Deck user deck)
  pub serve : (user device : ℕ) → P (Serve user device) (Serve user device)
  pub transfer : (user id to : ℕ) → P (Transfer user id to) (Transfer user id to)

-- What holds of each event and the same one holds of two that ask the same.
pub of_same : (P : Event → Event → Type 0) → OfSame P → (one other : Event) → IsSameEvent one other → P one other
of_same P h (Run user units) (Run other count) e =
    subst (λ (u : ℕ). P (Run user units) (Run u count)) (sym e.0)
    (subst (λ (n : ℕ). P (Run user units) (Run user n)) (sym e.1) (h.run user units))
of_same P h (Run user units) (Line other text) e = absurd e
of_same P h (Run user units) (Tick other) e = absurd e
of_same P h (Run user units) (Deck other deck) e = absurd e
of_same P h (Run user units) (Serve other place) e = absurd e
of_same P h (Run user units) (Transfer other number receiver) e = absurd e
of_same P h (Line user typed) (Run other count) e = absurd e
of_same P h (Line user typed) (Line other text) e =
    subst (λ (u : ℕ). P (Line user typed) (Line u text)) (sym e.0) (h.line user typed text e.1)
of_same P h (Line user typed) (Tick other) e = absurd e
of_same P h (Line user typed) (Deck other deck) e = absurd e
of_same P h (Line user typed) (Serve other place) e = absurd e
of_same P h (Line user typed) (Transfer other number receiver) e = absurd e
of_same P h (Tick user) (Run other count) e = absurd e
of_same P h (Tick user) (Line other text) e = absurd e
of_same P h (Tick user) (Tick other) e = subst (λ (u : ℕ). P (Tick user) (Tick u)) (sym e) (h.tick user)
of_same P h (Tick user) (Deck other deck) e = absurd e
of_same P h (Tick user) (Serve other place) e = absurd e
of_same P h (Tick user) (Transfer other number receiver) e = absurd e
of_same P h (Deck user cards) (Run other count) e = absurd e
of_same P h (Deck user cards) (Line other text) e = absurd e
of_same P h (Deck user cards) (Tick other) e = absurd e
of_same P h (Deck user cards) (Deck other deck) e =
    subst (λ (u : ℕ). P (Deck user cards) (Deck u deck)) (sym e.0) (h.deck user cards deck e.1)
of_same P h (Deck user cards) (Serve other place) e = absurd e
of_same P h (Deck user cards) (Transfer other number receiver) e = absurd e
of_same P h (Serve user device) (Run other count) e = absurd e
of_same P h (Serve user device) (Line other text) e = absurd e
of_same P h (Serve user device) (Tick other) e = absurd e
of_same P h (Serve user device) (Deck other deck) e = absurd e
of_same P h (Serve user device) (Serve other place) e =
    subst (λ (u : ℕ). P (Serve user device) (Serve u place)) (sym e.0)
    (subst (λ (n : ℕ). P (Serve user device) (Serve user n)) (sym e.1) (h.serve user device))
of_same P h (Serve user device) (Transfer other number receiver) e = absurd e
of_same P h (Transfer user id to) (Run other count) e = absurd e
of_same P h (Transfer user id to) (Line other text) e = absurd e
of_same P h (Transfer user id to) (Tick other) e = absurd e
of_same P h (Transfer user id to) (Deck other deck) e = absurd e
of_same P h (Transfer user id to) (Serve other place) e = absurd e
of_same P h (Transfer user id to) (Transfer other number receiver) e =
    subst (λ (u : ℕ). P (Transfer user id to) (Transfer u number receiver)) (sym e.0)
    (subst (λ (n : ℕ). P (Transfer user id to) (Transfer user n receiver)) (sym e.1)
    (subst (λ (r : ℕ). P (Transfer user id to) (Transfer user id r)) (sym e.2) (h.transfer user id to)))
