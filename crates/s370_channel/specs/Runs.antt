-- The run of a program for a device, read so.
use Rattle.std.specs.Prelude.{ℕ, ◌≡◌, Bool, false}
use Rattle.s370_walk.specs.declared.parts.Ending.{Ending}
use Rattle.s370_walk.specs.declared.parts.Order.{Order}
use Rattle.s370_store.specs.Memory.{Memory}
use Rattle.s370_walk.specs.Hardware.{Machine}
use Rattle.s370_walk.specs.Walk.{Fetching, Over, Reaches, Setting, State, start_spot}
use Rattle.s370_channel.specs.declared.running.ChannelError.{ChannelError}
use Rattle.s370_channel.specs.declared.running.ChannelError.TheVariants as errors
use Rattle.s370_channel.specs.declared.words.Caw.{Caw}
use Rattle.s370_channel.specs.Guest.{guest_written}
use Rattle.s370_channel.specs.Progress.{MatchStuck}
use Rattle.s370_channel.specs.Reading.{Reading}
use Rattle.s370_channel.specs.Start.{most_commands}

-- a device as a machine with the key of a program, which may start so many commands
abbrev pub limited : {D : Type 0} → Machine D → Caw → Setting D
limited machine start = record {
  machine = machine;
  key = start.key;
  limit = most_commands;
  prefix = 0;
}

-- where a program begins
abbrev pub begun : {D : Type 0} → Caw → Memory → D → State D
begun start m part = Fetching (start_spot start.address) m part

-- the program with this start, read so, comes to an ending, with the storage and the device as they
-- then are
abbrev pub Walks : Reading → {D : Type 0} → Machine D → Caw → Memory → D → Ending → Memory → D
    → Type 0
Walks reads machine start old part ending new part' =
    Reaches (reads old) (limited machine start) (begun start old part) (Over ending new part')

-- a page that is reported as absent is not present
abbrev pub ReportsAbsent : (ℕ → Bool) → ChannelError → Type 0
ReportsAbsent present errors.Memory = Unit {0}
ReportsAbsent present (errors.Absent page) = present page.0 ≡ false

-- why a program is not run whose words are read as they are reached: its walk comes to a step that
-- needs a page which is not present, or to a command that needs memory
abbrev pub IsStopped : {D : Type 0} → Machine D → (D → Order → Bool) → (ℕ → Bool) → Caw → Memory → D
    → ChannelError → Type 0
IsStopped machine needs present start m part error =
    MatchStuck guest_written (limited machine start) needs present (begun start m part) error
