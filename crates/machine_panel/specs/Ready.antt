-- Which machines would do something with a slice of the processor.
use Rattle.std.specs.Prelude.{Bool, true, false}
use Rattle.s370_intr.specs.declared.next.Next.{Next}
use Rattle.s370_intr.specs.declared.next.Next.TheVariants.{Stops, Accepts, AcceptsStatus, Instructs}
use Rattle.s370_intr.specs.declared.next.Reason.{Reason}
use Rattle.s370_intr.specs.declared.next.Reason.TheVariants.{Stopped, Count, EcMode, Wait}
use Rattle.s370_intr.specs.declared.next.Reason.TheVariants.{DisabledWait, FramesOut}
use Rattle.machine_panel.specs.Machine.{Machine}
use Rattle.machine_panel.specs.Run.{run}

-- a machine that waits for an interruption, or does not run, does nothing; one that stops by itself
-- says so
abbrev pub does_something : Reason → Bool
does_something Stopped = false
does_something Wait = false
does_something Count = true
does_something EcMode = true
does_something DisabledWait = true
does_something FramesOut = true

-- what a running processor does next is a unit, or something that it says
abbrev pub has_work : Next → Bool
has_work (Stops reason) = does_something reason
has_work (Accepts taken) = true
has_work (AcceptsStatus status) = true
has_work Instructs = true

-- a machine is ready unless a run of one unit says that it waits, or that it is stopped; one that
-- lacks a frame is ready, since it has a unit to do
abbrev pub is_ready : Machine → Bool
is_ready m = does_something (run 1 m).reason
