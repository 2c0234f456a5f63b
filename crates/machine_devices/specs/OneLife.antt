-- What happens to a machine with devices leaves one machine, whoever else is logged on.
use Rattle.std.specs.Prelude.{ℕ, ◌≡◌, List, map}
use Rattle.s370_channel.specs.Reading.{Reading}
use Rattle.machine_devices.specs.declared.line.LineOutcome.{LineOutcome}
use Rattle.machine_devices.specs.Equipped.{Equipped}
use Rattle.machine_devices.specs.Life.{Event, Units, Serve, Line, Tick, Deck, Message, Purge, Lives}
use Rattle.machine_devices.specs.Lines.{IsLine}
use Rattle.machine_devices.specs.UserDirectory.{UserDirectory}

-- the same events leave the same machine
abbrev pub LivesAreOne : Type 0
LivesAreOne = (reads : Reading) (events : List Event) (first one other : Equipped) →
    Lives reads events first one → Lives reads events first other → one ≡ other

-- a line leaves the same machine in two worlds in which users have the same names
abbrev pub LinesAreOne : Type 0
LinesAreOne = (v w : UserDirectory) (typed : List ℕ) (old one other : Equipped)
    (reported said : LineOutcome) →
    v.names ≡ w.names → IsLine v typed old reported one → IsLine w typed old said other
    → one ≡ other

-- an event as it happens in another world
abbrev pub elsewhere : (UserDirectory → UserDirectory) → Event → Event
elsewhere other (Units count) = Units count
elsewhere other (Serve device) = Serve device
elsewhere other (Line world typed) = Line (other world) typed
elsewhere other Tick = Tick
elsewhere other (Deck deck) = Deck deck
elsewhere other (Message text) = Message text
elsewhere other (Purge id) = Purge id

-- in each other world users have the same names
abbrev pub KeepsNames : (UserDirectory → UserDirectory) → Type 0
KeepsNames other = (world : UserDirectory) → (other world).names ≡ world.names

-- the same events leave the same machine, whoever else is logged on at each of them
abbrev pub LivesAreApart : Type 0
LivesAreApart = (reads : Reading) (elsewhere_is : UserDirectory → UserDirectory)
    (events : List Event) (first one other : Equipped) →
    KeepsNames elsewhere_is → Lives reads events first one
    → Lives reads (map (elsewhere elsewhere_is) events) first other → one ≡ other
