-- What is done with the machine of one user while its storage is borrowed: what it leaves of his
-- machine with its devices and of the frames, and what it says. No frame is pinned before and after
-- it.
use Rattle.std.specs.Prelude.{◌≡◌, ℕ, ◌≤◌, Bool, List, [], ◌∷◌, true, false, length, IsSome, Result}
use Rattle.std.specs.Prelude.{Ok, Err}
use Rattle.s370_store.specs.declared.supply.FramesOut.{FramesOut}
use Rattle.s370_channel.specs.Reading.{as_reached}
use Rattle.s370_intr.specs.declared.run.Ran.{Ran}
use Rattle.s370_intr.specs.Laws.{begun}
use Rattle.s370_intr.specs.Run.{AllNeeded, EachBrings, IsLacking}
use Rattle.s370_subchannels.specs.Programs.{program_of}
use Rattle.cp_frames.specs.Layout.{FrameSupply}
use Rattle.cp_dat.specs.Supplied.{HasNoRoom, IsBroughtInUnits}
use Rattle.machine_channels.specs.Channels.{serve_times}
use Rattle.machine_panel.specs.declared.line.LineError.{LineError}
use Rattle.machine_panel.specs.declared.line.LineError.TheVariants as errors
use Rattle.machine_panel.specs.Run.{TellsRun, notice_of}
use Rattle.machine_panel.specs.Tick.{TickNeeds, ticked}
use Rattle.machine_devices.specs.declared.line.LineOutcome.{LineOutcome}
use Rattle.machine_devices.specs.Equipped.{Equipped}
use Rattle.machine_devices.specs.Lines.{IsLine, requested}
use Rattle.machine_devices.specs.Requests.{switches}
use Rattle.machine_devices.specs.Serve.{IsServedAt}
use Rattle.machine_devices.specs.Spooling.{with_deck_purged}
use Rattle.machine_devices.specs.UserDirectory.{UserDirectory}
use Rattle.cp_core.specs.Supply.{AreNeeded, IsGivenBack, IsShort, LineBrings}
use Rattle.machine_devices.specs.Comes.{LineMay, is_ipl}
use Rattle.cp_core.specs.Room.{LineHadFrames, ServeHadFrames}
use Rattle.cp_core.specs.Wants.{DeviceNeeds, LineWants}

-- ---- a run

-- its devices and disks stay, and each unit brings at most nine pages that it needs
pub record HasRun (asked user : ℕ) (old : Equipped) (before : FrameSupply) (ran : Ran)
    (new : Equipped) (after : FrameSupply) : Type 0 where
  pub reported : TellsRun asked old.machine
      (record {
        machine = new.machine;
        units = ran.units;
        reason = ran.reason;
        notice = notice_of ran.reason;
      }) (HasNoRoom after user)
  pub devices : new.devices ≡ old.devices
  pub disks : new.disks ≡ old.disks
  pub brought : (units : List (List ℕ)) × IsBroughtInUnits user units before after
      × EachBrings old.machine.core 0 units × (length units ≤ begun ran.units ran.reason)

-- ---- a tick

-- what a tick leaves of a user's machine
abbrev pub TickLeaves : ℕ → Equipped → Result (Unit {0}) FramesOut → Equipped → FrameSupply → Type 0
TickLeaves user old (Ok done) new after = (new.machine ≡ ticked old.machine)
    × (new.devices ≡ old.devices) × (new.disks ≡ old.disks)
TickLeaves user old (Err out) new after =
    (new ≡ old) × IsLacking (TickNeeds old.machine) (length old.machine.core.processor.bytes)
    (HasNoRoom after user)

-- it brings page 0 at most
pub record HasTicked (user : ℕ) (old : Equipped) (before : FrameSupply)
    (result : Result (Unit {0}) FramesOut) (new : Equipped) (after : FrameSupply) : Type 0 where
  pub leaves : TickLeaves user old result new after
  pub brought : (pages : List ℕ) × IsBroughtInUnits user (pages ∷ []) before after
      × AllNeeded (TickNeeds old.machine) pages × (length pages ≤ 1)

-- ---- a deck that is withdrawn

-- the deck of this number has left the reader, unless it is current, and all else stays
pub record HasWithdrawn (id user : ℕ) (old : Equipped) (before : FrameSupply) (done : Unit {0})
    (new : Equipped) (after : FrameSupply) : Type 0 where
  pub leaves : new ≡ record old { devices = with_deck_purged old.devices id }
  pub supply : after ≡ before

-- ---- a line

-- what a line leaves of a user's machine
abbrev pub LineLeaves : UserDirectory → ℕ → List ℕ → Equipped → Result LineOutcome LineError
    → Equipped → FrameSupply → Type 0
LineLeaves world user typed old (Ok reported) new after = IsLine world typed old reported new
LineLeaves world user typed old (Err errors.Memory) new after =
    (is_ipl (requested typed old) ≡ false → new ≡ old) × LineMay world typed old
LineLeaves world user typed old (Err errors.FramesOut) new after =
    (new ≡ old) × IsLacking (LineWants typed old) (length old.machine.core.processor.bytes)
    (IsShort after user (LineWants typed old))

-- LOGON and LOGOFF give back all pages, unless they are refused memory
abbrev pub LineGivesBack : ℕ → FrameSupply → Result LineOutcome LineError → FrameSupply → Type 0
LineGivesBack user before (Ok reported) after = IsGivenBack user before after
LineGivesBack user before (Err error) after = after ≡ before

-- every other line brings pages that it needs
pub record HasTyped (world : UserDirectory) (user : ℕ) (typed : List ℕ) (old : Equipped)
    (before : FrameSupply) (result : Result LineOutcome LineError) (new : Equipped)
    (after : FrameSupply) : Type 0 where
  pub leaves : LineLeaves world user typed old result new after
  pub given_back : switches (requested typed old) ≡ true → LineGivesBack user before result after
  pub brought : switches (requested typed old) ≡ false
      → (units : List (List ℕ)) × IsBroughtInUnits user units before after
      × LineBrings (is_ipl (requested typed old)) (LineWants typed old) units
  pub roomy : result ≡ Err errors.Memory → LineHadFrames typed user old before after

-- ---- a serve

-- what a serve leaves of a user's machine
abbrev pub ServeLeaves : ℕ → ℕ → Equipped → Result Bool LineError → Equipped → FrameSupply → Type 0
ServeLeaves device user old (Ok done) new after = IsServedAt as_reached device old done new
ServeLeaves device user old (Err errors.Memory) new after =
    IsSome (program_of device old.machine.core.subchannels)
ServeLeaves device user old (Err errors.FramesOut) new after =
    (new ≡ old) × IsLacking (DeviceNeeds device old) (length old.machine.core.processor.bytes)
    (IsShort after user (DeviceNeeds device old))

-- it brings pages that the program needs, each at most twice
pub record HasServed (device user : ℕ) (old : Equipped) (before : FrameSupply)
    (result : Result Bool LineError) (new : Equipped) (after : FrameSupply) : Type 0 where
  pub leaves : ServeLeaves device user old result new after
  pub brought : (units : List (List ℕ)) × IsBroughtInUnits user units before after
      × AreNeeded (DeviceNeeds device old) serve_times units
  pub roomy : result ≡ Err errors.Memory → ServeHadFrames device user old before after
