-- What a machine does in at most n units of operation (docs/MACHINE.md, "Units, states and runs").
use Rattle.std.specs.Prelude.{◌≡◌, ℕ, ◌<◌, length, Option, Some, None}
use Rattle.s370_intr.specs.declared.next.Reason.{Reason}
use Rattle.s370_intr.specs.declared.next.Reason.TheVariants.{Stopped, Count, EcMode, Wait}
use Rattle.s370_intr.specs.declared.next.Reason.TheVariants.{DisabledWait, FramesOut}
use Rattle.s370_intr.specs.Units.{Needs}
use Rattle.s370_intr.specs.Run.{IsLacking, run as run_core}
use Rattle.cp_console.specs.Responses.{text_of}
use Rattle.cp_console.specs.declared.responses.Response.{Response}
use Rattle.cp_console.specs.declared.responses.Response.TheVariants.{StoppedDisabledWait}
use Rattle.cp_console.specs.declared.responses.Response.TheVariants.{StoppedEcMode}
use Rattle.machine_panel.specs.declared.machine.Mode.{Mode}
use Rattle.machine_panel.specs.declared.machine.Mode.TheVariants.{Off, Stopped as NotRunning}
use Rattle.machine_panel.specs.declared.machine.Mode.TheVariants.{Running}
use Rattle.machine_panel.specs.Machine.{Machine, printed}

-- what a run leaves, how many units it did, why it did no more, and the notice that the machine
-- printed, if it stopped
pub record MachineRun : Type 0 where
  pub machine : Machine
  pub units : ℕ
  pub reason : Reason
  pub notice : Option Response

-- a machine stops that left basic control mode or waits for nothing, and says so; another wait goes
-- on
abbrev pub notice_of : Reason → Option Response
notice_of EcMode = Some StoppedEcMode
notice_of DisabledWait = Some StoppedDisabledWait
notice_of Stopped = None
notice_of Count = None
notice_of Wait = None
notice_of FramesOut = None

-- the machine after it has stopped with this notice, or as it is
abbrev pub halted : Option Response → Machine → Machine
halted None m = m
halted (Some notice) m = printed (record m { mode = NotRunning }) (text_of notice)

-- a run of up to n units of a machine in this mode
abbrev pub run_in : Mode → ℕ → Machine → MachineRun
run_in Running n m =
    let r = run_core n m.core in
    let notice = notice_of r.reason in
    record {
      machine = halted notice (record m { core = r.core });
      units = r.units;
      reason = r.reason;
      notice = notice;
    }
run_in NotRunning n m = record { machine = m; units = 0; reason = Stopped; notice = None }
run_in Off n m = record { machine = m; units = 0; reason = Stopped; notice = None }

-- at most n units of a machine, which does none unless it runs
abbrev pub run : ℕ → Machine → MachineRun
run n m = run_in m.mode n m

-- ---- what is reported over a storage that brings its pages

-- of n units so many were done, and the next one needs a page for which there is no room
pub record IsCutRun (n : ℕ) (old : Machine) (reported : MachineRun)
    (is_short : ℕ → Type 0) : Type 0 where
  pub done : run reported.units old ≡ record reported { reason = Count }
  pub fewer : reported.units < n
  pub lacking : IsLacking (Needs reported.machine.core)
      (length reported.machine.core.processor.bytes) is_short

-- what a run reports for each reason of its end
abbrev pub TellsFor : Reason → ℕ → Machine → MachineRun → (ℕ → Type 0) → Type 0
TellsFor FramesOut n old reported is_short = IsCutRun n old reported is_short
TellsFor _ n old reported is_short = run n old ≡ reported

-- a run of at most n units, or so much of it as there was room for
abbrev pub TellsRun : ℕ → Machine → MachineRun → (ℕ → Type 0) → Type 0
TellsRun n old reported is_short = TellsFor reported.reason n old reported is_short
