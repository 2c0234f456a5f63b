-- Lines that a console has printed before do not matter to what happens to a machine with devices.
use Rattle.std.specs.Prelude.{ℕ, List, []}
use Rattle.s370_channel.specs.Reading.{Reading}
use Rattle.machine_panel.specs.Forgotten.{having_printed}
use Rattle.machine_devices.specs.Equipped.{Equipped}
use Rattle.machine_devices.specs.Life.{Event, Lives}

-- the machine with its devices that has printed these lines before its own
abbrev pub equipped_having_printed : List (List ℕ) → Equipped → Equipped
equipped_having_printed lines e = record e { machine = having_printed lines e.machine }

-- the machine with its devices, of which the console has printed nothing
abbrev pub unprinted : Equipped → Equipped
unprinted e = record e { machine = record e.machine { output = [] } }

-- whatever happens to a machine with devices: one that has printed these lines before lives the
-- same
abbrev pub PrintedLinesDoNotMatter : Type 0
PrintedLinesDoNotMatter = (reads : Reading) (lines : List (List ℕ)) (events : List Event)
    (old new : Equipped) → Lives reads events old new
    → Lives reads events (equipped_having_printed lines old) (equipped_having_printed lines new)
