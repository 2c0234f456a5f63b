-- What a line does to the storage that is lent to it.
use Rattle.std.specs.Prelude.{◌≡◌, ℕ, true, false, List, length, OnErr, OnOk, Result, Err}
use Rattle.s370_intr.specs.Run.{IsLacking}
use Rattle.cp_dat.specs.declared.dat.Dat.{Dat}
use Rattle.cp_dat.specs.Lent.{KeepsFrames, lent_pool, user_of}
use Rattle.cp_dat.specs.Supplied.{IsBetweenUnits, SuppliedUnits}
use Rattle.machine_panel.specs.declared.line.LineError.{LineError}
use Rattle.machine_panel.specs.declared.line.LineError.TheVariants as errors
use Rattle.machine_devices.specs.declared.line.LineOutcome.{LineOutcome}
use Rattle.machine_devices.specs.Equipped.{Equipped}
use Rattle.machine_devices.specs.Lines.{requested}
use Rattle.machine_devices.specs.Requests.{switches}
use Rattle.cp_core.specs.Supply.{IsGivenBack, IsShort, LineBrings}
use Rattle.machine_devices.specs.Comes.{is_ipl}
use Rattle.cp_core.specs.Room.{LineHadFrames}
use Rattle.cp_core.specs.Wants.{LineWants}

-- LOGON and LOGOFF give back all pages, unless they are refused memory; every other line brings
-- pages that it needs; no frame is pinned then, and an IPL is refused memory only with room
pub record IsLineLent (typed : List ℕ) (before : Equipped) (old new : Dat)
    (r : Result LineOutcome LineError) : Type 0 where
  pub kept : KeepsFrames old new
  pub frames : r ≡ Err errors.FramesOut
      → IsLacking (LineWants typed before) (length before.machine.core.processor.bytes)
      (IsShort (lent_pool new).supply (user_of old) (LineWants typed before))
  pub cleared : switches (requested typed before) ≡ true
      → OnOk r (IsGivenBack (user_of old) (lent_pool old).supply (lent_pool new).supply)
  pub not_cleared : switches (requested typed before) ≡ true
      → OnErr r ((lent_pool new).supply ≡ (lent_pool old).supply)
  pub supply : switches (requested typed before) ≡ false
      → (units : List (List ℕ)) × SuppliedUnits old units new
      × LineBrings (is_ipl (requested typed before)) (LineWants typed before) units
  pub between : IsBetweenUnits (lent_pool new).supply
  pub roomy : r ≡ Err errors.Memory
      → LineHadFrames typed (user_of old) before (lent_pool old).supply (lent_pool new).supply
