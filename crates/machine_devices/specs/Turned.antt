-- Which events turn a machine on or off.
use Rattle.std.specs.Prelude.{ℕ, ◌≡◌, List, [], ◌∷◌}
use Rattle.s370_channel.specs.Reading.{Reading}
use Rattle.machine_devices.specs.Equipped.{Equipped}
use Rattle.machine_devices.specs.Life.{Event, Units, Serve, Line, Tick, Deck, Message, Purge, Lives}
use Rattle.machine_devices.specs.UserDirectory.{UserDirectory, is_logged_on}

-- no event of these is a typed line
abbrev pub HasNoLine : List Event → Type 0
HasNoLine [] = Unit {0}
HasNoLine (Units count ∷ events) = HasNoLine events
HasNoLine (Serve device ∷ events) = HasNoLine events
HasNoLine (Line world typed ∷ events) = ⊥
HasNoLine (Tick ∷ events) = HasNoLine events
HasNoLine (Deck deck ∷ events) = HasNoLine events
HasNoLine (Message text ∷ events) = HasNoLine events
HasNoLine (Purge id ∷ events) = HasNoLine events

-- only a typed line turns a machine on or off
abbrev pub OnlyLinesTurn : Type 0
OnlyLinesTurn = (reads : Reading) (events : List Event) (first last : Equipped) → HasNoLine events
    → Lives reads events first last
    → is_logged_on last.machine.mode ≡ is_logged_on first.machine.mode
