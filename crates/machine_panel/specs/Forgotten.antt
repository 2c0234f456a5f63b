-- Lines that a console has printed before do not matter to what its machine does.
use Rattle.std.specs.Prelude.{ℕ, ◌≡◌, List, ◌++◌}
use Rattle.machine_panel.specs.declared.line.PanelLine.{PanelLine}
use Rattle.machine_panel.specs.Machine.{Machine, cleared, printed, reset, switched_off}
use Rattle.machine_panel.specs.Panel.{Answer, line}
use Rattle.machine_panel.specs.Run.{MachineRun, run}
use Rattle.machine_panel.specs.Tick.{ticked}

-- the machine that has printed these lines before its own
abbrev pub having_printed : List (List ℕ) → Machine → Machine
having_printed lines m = record m { output = lines ++ m.output }

-- what such a machine leaves of a run
abbrev pub run_having_printed : List (List ℕ) → MachineRun → MachineRun
run_having_printed lines r = record r { machine = having_printed lines r.machine }

-- what such a machine leaves of a line
abbrev pub answer_having_printed : List (List ℕ) → Answer → Answer
answer_having_printed lines a = record a { machine = having_printed lines a.machine }

-- whatever a machine does that has printed these lines, it does the same without them
pub record DoNotMatter (lines : List (List ℕ)) (m : Machine) : Type 0 where
  pub runs : (n : ℕ) → run n (having_printed lines m) ≡ run_having_printed lines (run n m)
  pub ticks : ticked (having_printed lines m) ≡ having_printed lines (ticked m)
  pub answers : (asked : PanelLine)
      → line asked (having_printed lines m) ≡ answer_having_printed lines (line asked m)
  pub prints : (text : List ℕ)
      → printed (having_printed lines m) text ≡ having_printed lines (printed m text)
  pub resets : reset (having_printed lines m) ≡ having_printed lines (reset m)
  pub clears : cleared (having_printed lines m) ≡ having_printed lines (cleared m)
  pub ends : switched_off (having_printed lines m) ≡ having_printed lines (switched_off m)

-- no lines that were printed before matter to any machine
abbrev pub PrintedLinesDoNotMatter : Type 0
PrintedLinesDoNotMatter = (lines : List (List ℕ)) (m : Machine) → DoNotMatter lines m
