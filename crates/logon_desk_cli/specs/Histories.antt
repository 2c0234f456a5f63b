-- The events of one frame after another are one history of the desk.
use Rattle.std.specs.Prelude.{◌≡◌, List, [], ◌∷◌}
use Rattle.logon_desk.specs.Desk.{Desk, Event}
use Rattle.logon_desk.specs.History.{after}
use Rattle.logon_desk_cli.specs.Events.{run}

-- events that happen after others, of which the last is first
abbrev pub onto : List Event → List Event → List Event
onto [] earlier = earlier
onto (event ∷ more) earlier = onto more (event ∷ earlier)

-- the desk is the one of which `keeps_its_promises` speaks
abbrev pub AreOneHistory : Type 0
AreOneHistory =
    (d : Desk) (earlier events : List Event)
    → (run (after d earlier) events).desk ≡ after d (onto events earlier)
