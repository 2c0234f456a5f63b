-- What a line asks of a machine alone, what that does, and what is replied (docs/COMMANDS.md).
use Rattle.std.specs.Prelude.{ℕ, if◌then◌else◌, true, List, [], Option, Some, None}
use Rattle.cp_console.specs.Responses.{text_of, is_panel}
use Rattle.cp_console.specs.declared.responses.Response.{Response}
use Rattle.s370_store.specs.Access.{Test}
use Rattle.s370_rows.specs.State.{State}
use Rattle.s370_intr.specs.Units.{Core}
use Rattle.machine_panel.specs.DisplayStore.{displayed, shown, stored, changed, touched}
use Rattle.machine_panel.specs.declared.line.PanelLine.{PanelLine}
use Rattle.machine_panel.specs.declared.line.PanelLine.TheVariants.{Nothing, Says, Stop, Begin}
use Rattle.machine_panel.specs.declared.line.PanelLine.TheVariants.{External, Display, Store}
use Rattle.machine_panel.specs.declared.machine.Mode.TheVariants.{Stopped, Running}
use Rattle.machine_panel.specs.Machine.{Machine, printed}

-- the machine after a line, and the reply, if there is one
pub record Answer : Type 0 where
  pub machine : Machine
  pub reply : Option Response

-- the machine without a response
abbrev pub silent : Machine → Answer
silent m = record { machine = m; reply = None }

-- a reply of the panel is printed by the machine's console too
abbrev pub answered : Response → Machine → Answer
answered reply m = record {
  machine = if is_panel reply then printed m (text_of reply) else m;
  reply = Some reply;
}

-- ---- BEGIN

-- the state with the instruction address of BEGIN, if it has one
abbrev pub at_address : Option ℕ → State → State
at_address None s = s
at_address (Some a) s = record s { cpu = record s.cpu { psw = record s.cpu.psw { address = a } } }

-- ---- EXTERNAL

-- the interrupt key is pending from then on
abbrev pub with_key_pressed : Core → Core
with_key_pressed c = record c { pending = record c.pending { key = true } }

-- ---- what a line does

-- what a line does to a machine
abbrev pub line : PanelLine → Machine → Answer
line Nothing m = silent m
line (Says response) m = record { machine = m; reply = Some response }
line Stop m = silent (record m { mode = Stopped })
line (Begin address) m =
    silent (record m {
      core = record m.core { processor = at_address address m.core.processor };
      mode = Running;
    })
line External m = silent (record m { core = with_key_pressed m.core })
line (Display place) m = answered (displayed place m.core.processor) m
line (Store change) m =
    answered (stored change m.core.processor)
    (record m { core = record m.core { processor = changed change m.core.processor } })

-- ---- the pages and the memory that it needs

-- the ranges of storage that it has to access
abbrev pub line_needs : PanelLine → List Test
line_needs (Display place) = shown place
line_needs (Store change) = touched change
line_needs Nothing = []
line_needs (Says response) = []
line_needs Stop = []
line_needs (Begin address) = []
line_needs External = []

-- how many lines it makes room for on the console: its answer, and the notice of a machine that
-- stops
abbrev pub line_room : PanelLine → ℕ
line_room (Display place) = 2
line_room (Store change) = 2
line_room (Begin address) = 1
line_room Nothing = 0
line_room (Says response) = 0
line_room Stop = 0
line_room External = 0
