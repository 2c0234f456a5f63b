-- What the answer to a part of a script reports the users' machines.
use Rattle.std.specs.Prelude.{ℕ, ◌&&◌, Bool, true, false, if◌then◌else◌, List, [], ◌∷◌, ◌++◌, codes}
use Rattle.std.specs.Prelude.{map}
use Rattle.std.specs.List.{list_any}
use Rattle.machine_panel.specs.declared.machine.Mode.{Mode}
use Rattle.machine_panel.specs.declared.machine.Mode.TheVariants.{Off, Stopped, Running}
use Rattle.cp_dispatch.specs.declared.program.Program.{Program}
use Rattle.sessions.specs.Installed.{Installation, Installed}
use Rattle.sessions.specs.Schedule.{Scene, ready_in}

-- in which mode each user's machine is
abbrev pub modes_of : Installed → List Mode
modes_of s = map (λ e. e.machine.mode) s.machines

-- the line that a user has logged on
abbrev pub on_line : List ℕ → List ℕ
on_line name = codes "> ON " ++ name

-- the line that a user has logged off
abbrev pub off_line : List ℕ → List ℕ
off_line name = codes "> OFF " ++ name

-- the line that a user's machine runs
abbrev pub runs_line : List ℕ → List ℕ
runs_line name = codes "> RUNS " ++ name

-- the line that a user's machine has stopped
abbrev pub stops_line : List ℕ → List ℕ
stops_line name = codes "> STOPS " ++ name

-- a user has logged on or off, and his machine was started or stopped: who goes stops first
abbrev pub change_lines : List ℕ → Mode → Mode → List (List ℕ)
change_lines name Off Off = []
change_lines name Off Stopped = on_line name ∷ []
change_lines name Off Running = on_line name ∷ runs_line name ∷ []
change_lines name Stopped Off = off_line name ∷ []
change_lines name Stopped Stopped = []
change_lines name Stopped Running = runs_line name ∷ []
change_lines name Running Off = stops_line name ∷ off_line name ∷ []
change_lines name Running Stopped = stops_line name ∷ []
change_lines name Running Running = []

-- those of users of these names, one after another
abbrev pub changed_lines : List (List ℕ) → List Mode → List Mode → List (List ℕ)
changed_lines [] olds news = []
changed_lines (name ∷ names) [] news = []
changed_lines (name ∷ names) (old ∷ olds) [] = []
changed_lines (name ∷ names) (old ∷ olds) (new ∷ news) = change_lines name old new
    ++ changed_lines names olds news

-- no program is in a line
abbrev pub is_none : List Program → Bool
is_none [] = true
is_none (program ∷ programs) = false

-- nobody is ready for a slice, and no program waits for a serve
abbrev pub is_idle : {W : Type 0} → Installation W → Scene W → Bool
is_idle i s = is_none s.lines.programs &&
    (if list_any (ready_in (i.seen s.world)) s.lines.users then false else true)
