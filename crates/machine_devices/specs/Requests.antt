-- What a line asks of a machine with devices, read once (docs/COMMANDS.md).
use Rattle.std.specs.Prelude.{ℕ, if◌then◌else◌, Bool, true, false, List, [], Result, Ok, Err}
use Rattle.s370_store.specs.Access.{Test}
use Rattle.cp_console.specs.Asked.{Asked, Stop, Command as ToControlProgram, Plain, asked_of}
use Rattle.cp_console.specs.Commands.{command_of}
use Rattle.cp_console.specs.declared.commands.Command.{Command}
use Rattle.cp_console.specs.declared.commands.Command.TheVariants as commands
use Rattle.cp_console.specs.declared.commands.CommandError.{CommandError}
use Rattle.cp_console.specs.declared.commands.CommandError.TheVariants as wrong
use Rattle.cp_console.specs.declared.responses.Response.TheVariants as responses
use Rattle.machine_panel.specs.declared.line.PanelLine.TheVariants as lines
use Rattle.machine_panel.specs.declared.machine.Mode.{Mode}
use Rattle.machine_panel.specs.declared.machine.Mode.TheVariants.{Off, Stopped, Running}
use Rattle.machine_panel.specs.Panel.{line_needs}
use Rattle.machine_devices.specs.declared.request.Request.{Request}
use Rattle.machine_devices.specs.declared.request.Request.TheVariants.{LogsOn, LogsOff, Resets}
use Rattle.machine_devices.specs.declared.request.Request.TheVariants.{Types, Loads, Asks, Alone}

-- ---- how it is read

-- a machine that is off knows only the line whose one word is LOGON
abbrev pub off_request : Result Command CommandError → Request
off_request (Ok commands.Logon) = LogsOn
off_request other = Alone (lines.Says responses.NotLoggedOn)

-- a command to one that is on
abbrev pub command_request : Result Command CommandError → Request
command_request (Ok commands.Nothing) = Alone lines.Nothing
command_request (Ok commands.Logon) = Alone (lines.Says responses.AlreadyLoggedOn)
command_request (Ok commands.Logoff) = LogsOff
command_request (Ok (commands.Begin address)) = Alone (lines.Begin address)
command_request (Ok commands.SystemReset) = Resets
command_request (Ok commands.External) = Alone lines.External
command_request (Ok (commands.Display place)) = Alone (lines.Display place)
command_request (Ok (commands.Store change)) = Alone (lines.Store change)
command_request (Ok (commands.Ipl device)) = Loads device
command_request (Ok (commands.Device command)) = Asks command
command_request (Err wrong.Unknown) = Alone (lines.Says responses.UnknownCommand)
command_request (Err (wrong.Operand place)) = Alone (lines.Says (responses.BadOperand place))
command_request (Err wrong.Memory) = Alone lines.Nothing

-- a machine that runs takes a line for its console, if it has one; a machine that is stopped takes
-- it as a command
abbrev pub plain_request : Mode → Bool → List ℕ → Request
plain_request Running has_console text = if has_console then Types
    else Alone (lines.Says responses.NoConsole)
plain_request Stopped has_console text = command_request (command_of text)
plain_request Off has_console text = Alone lines.Nothing

-- #CP stops the machine, or gives it a command in either state
abbrev pub asked_request : Mode → Bool → Asked → Request
asked_request mode has_console Stop = Alone lines.Stop
asked_request mode has_console (ToControlProgram text) = command_request (command_of text)
asked_request mode has_console (Plain text) = plain_request mode has_console text

-- by the mode of the machine, and whether it has a console
abbrev pub request_in : Mode → Bool → List ℕ → Request
request_in Off has_console text = off_request (command_of text)
request_in Stopped has_console text = asked_request Stopped has_console (asked_of text)
request_in Running has_console text = asked_request Running has_console (asked_of text)

-- ---- what it needs

-- whether it switches the machine on, or off: either gives back all its pages
abbrev pub switches : Request → Bool
switches LogsOn = true
switches LogsOff = true
switches Resets = false
switches Types = false
switches (Loads device) = false
switches (Asks command) = false
switches (Alone asked) = false

-- the ranges of storage that it has to access; what a loading needs is said with it
abbrev pub needs_of : Request → List Test
needs_of (Alone asked) = line_needs asked
needs_of LogsOn = []
needs_of LogsOff = []
needs_of Resets = []
needs_of Types = []
needs_of (Loads device) = []
needs_of (Asks command) = []
