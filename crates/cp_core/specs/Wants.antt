-- Which pages an event with a channel program needs: what it asks of the devices is reported by the
-- line that asks for it.
use Rattle.std.specs.Prelude.{◌⊎◌, ℕ, List}
use Rattle.s370_store.specs.Access.{Touches}
use Rattle.cp_trial.specs.Holding.{HoldNeeds}
use Rattle.machine_devices.specs.Equipped.{Equipped}
use Rattle.machine_devices.specs.Comes.{LoadWants}
use Rattle.machine_devices.specs.Lines.{requested}
use Rattle.machine_devices.specs.Requests.{needs_of}
use Rattle.machine_devices.specs.Serve.{ServeNeeds}

-- a serve needs the pages that the program of the device touches, which was started on it: each
-- with a byte of a word that it fetches, of that word's list, or of a byte that it moves; and where
-- no input can change the program, those of the words that it can reach, of their lists and of
-- their areas
abbrev pub DeviceNeeds : ℕ → Equipped → ℕ → Type 0
DeviceNeeds device e page = ServeNeeds HoldNeeds device e page

-- a line needs the pages of the bytes that it shows or changes, and those of the loading for which
-- it asks
abbrev pub LineWants : List ℕ → Equipped → ℕ → Type 0
LineWants typed e page =
    Touches (needs_of (requested typed e)) page ⊎ LoadWants (requested typed e) e page
