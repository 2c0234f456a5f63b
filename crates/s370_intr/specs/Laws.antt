-- How many pages a unit and a run need, whatever the state.
use Rattle.std.specs.Prelude.{ℕ, ◌+◌, ◌*◌}
use Rattle.s370_cpu.specs.Laws.{AreAtMost}
use Rattle.s370_intr.specs.declared.next.Reason.{Reason}
use Rattle.s370_intr.specs.declared.next.Reason.TheVariants.{FramesOut}
use Rattle.s370_intr.specs.Units.{Core, Needs}
use Rattle.s370_intr.specs.Run.{RunNeeds}

-- all pages that a unit needs are in one list of at most nine
abbrev pub NinePages : Type 0
NinePages = (c : Core) → AreAtMost 9 (Needs c)

-- the units that a run has begun: those that it did, and the one for which there was no room
abbrev pub begun : ℕ → Reason → ℕ
begun units FramesOut = 1 + units
begun units _ = units

-- all pages that a run needs are in one list of at most nine for each of them
abbrev pub NinePagesEach : Type 0
NinePagesEach = (c : Core) (units : ℕ) (reason : Reason)
    → AreAtMost (9 * begun units reason) (RunNeeds c units reason)
