-- The events of an installation, and their users.
use Rattle.std.specs.Prelude.{◌≡◌, ℕ}
use Rattle.machine_devices.specs.declared.event.Event.{Event}
use Rattle.machine_devices.specs.declared.event.Event.TheVariants.{Run, Line, Tick, Deck, Serve}
use Rattle.machine_devices.specs.declared.event.Event.TheVariants.{Transfer}

-- the user whom an event names
abbrev pub user_of : Event → ℕ
user_of (Run user units) = user
user_of (Line user typed) = user
user_of (Tick user) = user
user_of (Deck user cards) = user
user_of (Serve user device) = user
user_of (Transfer user id to) = user

-- the same is asked of the same user, wherever its text or its cards are kept
abbrev pub IsSameEvent : Event → Event → Type 0
IsSameEvent (Run user units) (Run other count) = (other ≡ user) × (count ≡ units)
IsSameEvent (Line user typed) (Line other text) = (other ≡ user) × (text.now ≡ typed.now)
IsSameEvent (Tick user) (Tick other) = other ≡ user
IsSameEvent (Deck user cards) (Deck other deck) = (other ≡ user) × (deck.now ≡ cards.now)
IsSameEvent (Serve user device) (Serve other place) = (other ≡ user) × (place ≡ device)
IsSameEvent (Transfer user id to) (Transfer other number receiver) =
    (other ≡ user) × (number ≡ id) × (receiver ≡ to)
IsSameEvent one other = ⊥
