-- Only a typed line turns a machine on or off.
use Rattle.std.proofs.Common.{◌≡◌, ◌∙◌, ℕ, Bool, List, [], ◌∷◌, Option, Some, None, ap, refl, sym}
use Rattle.s370_channel.specs.Reading.{Reading}
use Rattle.s370_channel.specs.declared.words.Caw.{Caw}
use Rattle.cp_console.specs.declared.responses.Response.{Response}
use Rattle.machine_panel.specs.Machine.{Machine}
use Rattle.machine_panel.specs.Run.{halted, run_in}
use Rattle.machine_panel.specs.Tick.{ticked_in}
use Rattle.machine_panel.specs.declared.machine.Mode.{Mode}
use Rattle.machine_panel.specs.declared.machine.Mode.TheVariants.{Off, Stopped, Running}
use Rattle.machine_devices.specs.Devices.{kind_at}
use Rattle.machine_devices.specs.Equipped.{Equipped}
use Rattle.machine_devices.specs.Life.{Event, Units, Serve, Line, Tick, Deck, Message, Purge, Leaves, Lives}
use Rattle.machine_devices.specs.Serve.{Serves}
use Rattle.machine_devices.specs.Turned.{HasNoLine, OnlyLinesTurn}
use Rattle.machine_devices.specs.UserDirectory.{UserDirectory, is_logged_on}
use Rattle.machine_devices.specs.declared.places.AttachedDevice.{AttachedDevice}
use Rattle.machine_devices.specs.declared.places.AttachedDevice.TheVariants as kinds
use Rattle.s370_subchannels.specs.Programs.{program_of}

-- whether a machine is on
abbrev on : Machine → Bool
on m = is_logged_on m.mode

halts_on : (notice : Option Response) (m : Machine) → m.mode ≡ Running → on (halted notice m) ≡ on m
halts_on None m e = refl
halts_on (Some notice) m e = sym (ap is_logged_on e)

runs_on : (mode : Mode) (n : ℕ) (m : Machine) → m.mode ≡ mode → on (run_in mode n m).machine ≡ on m
runs_on Running n m e =
    let r = run_in Running n m in
    halts_on r.notice _ e
runs_on Stopped n m e = refl
runs_on Off n m e = refl

ticks_on : (mode : Mode) (m : Machine) → on (ticked_in mode m) ≡ on m
ticks_on Running m = refl
ticks_on Stopped m = refl
ticks_on Off m = refl

serves_on : (reads : Reading) (k : Option AttachedDevice) (start : Option Caw) (device : ℕ) (old : Equipped)
    (done : Bool) (new : Equipped) → Serves reads k start device old done new → on new.machine ≡ on old.machine
serves_on reads None start device old done new s = ap (λ (e : Equipped). on e.machine) s.1
serves_on reads (Some kind) None device old done new s = ap (λ (e : Equipped). on e.machine) s.1
serves_on reads (Some kinds.Console) (Some start) device old done new s = ap on s.1.left
serves_on reads (Some kinds.Reader) (Some start) device old done new s = ap on s.1.0.left
serves_on reads (Some kinds.Punch) (Some start) device old done new s = ap on s.1.0.left
serves_on reads (Some kinds.Printer) (Some start) device old done new s = ap on s.1.0.left
serves_on reads (Some (kinds.Disk index)) (Some start) device old done new s = ap on s.1.left

-- Only a typed line turns a machine on or off.
pub only_lines_turn : OnlyLinesTurn
only_lines_turn reads [] first last none l = ap (λ (e : Equipped). on e.machine) l
only_lines_turn reads (Units count ∷ events) first last none l =
    only_lines_turn reads events l.0 last none l.2
    ∙ (ap on l.1.0 ∙ runs_on first.machine.mode count first.machine refl)
only_lines_turn reads (Serve device ∷ events) first last none l =
    only_lines_turn reads events l.0 last none l.2
    ∙ serves_on reads (kind_at first.devices first.disks device)
    (program_of device first.machine.core.subchannels) device first l.1.0 l.0 l.1.1
only_lines_turn reads (Line world typed ∷ events) first last none l = absurd none
only_lines_turn reads (Tick ∷ events) first last none l =
    only_lines_turn reads events l.0 last none l.2
    ∙ (ap on l.1.0 ∙ ticks_on first.machine.mode first.machine)
only_lines_turn reads (Deck deck ∷ events) first last none l =
    only_lines_turn reads events l.0 last none l.2 ∙ ap (λ (e : Equipped). on e.machine) l.1
only_lines_turn reads (Message text ∷ events) first last none l =
    only_lines_turn reads events l.0 last none l.2 ∙ ap (λ (e : Equipped). on e.machine) l.1
only_lines_turn reads (Purge id ∷ events) first last none l =
    only_lines_turn reads events l.0 last none l.2 ∙ ap (λ (e : Equipped). on e.machine) l.1
