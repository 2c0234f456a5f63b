-- What is kept of the programs of a user's devices, as a work leaves it that is done with his
-- machine.
use Rattle.std.specs.Prelude.{◌≡◌, ℕ, Bool, true, false, List, OnErr, OnOk, Option, Result, Err, Ok}
use Rattle.std.specs.Prelude.{slice_set, None, Some}
use Rattle.s370_channel.specs.declared.words.Caw.{Caw}
use Rattle.s370_subchannels.specs.Programs.{program_of}
use Rattle.machine_panel.specs.declared.line.LineError.{LineError}
use Rattle.machine_panel.specs.declared.line.LineError.TheVariants as errors
use Rattle.machine_devices.specs.Comes.{is_ipl}
use Rattle.machine_devices.specs.Devices.{kind_at}
use Rattle.machine_devices.specs.Equipped.{Equipped, storage_in}
use Rattle.machine_devices.specs.Lines.{requested}
use Rattle.machine_devices.specs.Reuses.{LineForgets, MayHaveRun, StartReuses}
use Rattle.machine_devices.specs.declared.line.LineOutcome.{LineOutcome}
use Rattle.machine_devices.specs.declared.reply.Ended.{Ended}
use Rattle.machine_devices.specs.declared.reply.Ended.TheVariants as ends
use Rattle.machine_devices.specs.declared.places.AttachedDevice.{AttachedDevice}
use Rattle.machine_devices.specs.declared.places.AttachedDevice.TheVariants as kinds
use Rattle.cp_frames.specs.Layout.{FrameSupply}
use Rattle.cp_dat.specs.declared.dat.Dat.{Dat}
use Rattle.cp_dat.specs.Lent.{lent_memory, lent_pool, user_of}
use Rattle.cp_resident.specs.Reuse.{HasReused, HasReusedDisk, KnowsAgain, ReuseValue, dropped}
use Rattle.cp_core.specs.System.{SystemView, kept_at, user_at}
use Rattle.machine_devices.specs.declared.event.Event.{Event}
use Rattle.machine_devices.specs.declared.event.Event.TheVariants.{Run, Line, Tick, Deck, Serve}
use Rattle.machine_devices.specs.declared.event.Event.TheVariants.{Transfer}

-- none is kept any longer
abbrev pub IsForgotten : ReuseValue → ReuseValue → Type 0
IsForgotten old new = new ≡ dropped old

-- LOGON, LOGOFF, SYSTEM RESET, and an IPL that finds its device drop what is kept; any other line
-- leaves it as it was, and so does one that is refused, but an IPL for which memory is
pub record LineKeeps (typed : List ℕ) (e : Equipped) (result : Result LineOutcome LineError)
    (old new : ReuseValue) : Type 0 where
  pub forgets : OnOk result (LineForgets IsForgotten old new (requested typed e) e)
  pub stays : is_ipl (requested typed e) ≡ false → OnErr result (new ≡ old)
  pub without_room : result ≡ Err errors.FramesOut → new ≡ old

-- this is a user's storage, which is borrowed from these frames
pub record IsLentSo (d : Dat) (user : ℕ) (e : Equipped) (supply : FrameSupply) : Type 0 where
  pub whose : user_of d ≡ user
  pub memory : lent_memory d ≡ storage_in e.machine
  pub frames : (lent_pool d).supply ≡ supply

-- the program of a device, where it works on one, runs again where the one that is kept may, over
-- that storage
abbrev pub Starts : ReuseValue → Dat → ReuseValue → Option AttachedDevice → Option Caw → Bool
    → Type 0
Starts old d new kind start done = StartReuses HasReused HasReusedDisk old d new kind start done

-- what a serve does to the user's cached programs
pub record ServeKeeps (device user : ℕ) (e : Equipped) (supply : FrameSupply)
    (result : Result Bool LineError) (old new : ReuseValue) : Type 0 where
  pub storage : Dat
  pub lent : IsLentSo storage user e supply
  pub kept : OnOk result (Starts old storage new (kind_at e.devices e.disks device)
      (program_of device e.machine.core.subchannels) true)
  pub refused : OnErr result
      ((done : Bool) × MayHaveRun (kind_at e.devices e.disks device) done
      × Starts old storage new (kind_at e.devices e.disks device)
      (program_of device e.machine.core.subchannels) done)

-- the minidisk's program that is kept may run again for this start, over that storage
abbrev pub RunsKept : ReuseValue → Dat → Option AttachedDevice → Option Caw → Type 0
RunsKept kept storage (Some (kinds.Disk index)) (Some start) = KnowsAgain kept index storage start
RunsKept kept storage (Some (kinds.Disk index)) None = ⊥
RunsKept kept storage (Some kinds.Console) start = ⊥
RunsKept kept storage (Some kinds.Reader) start = ⊥
RunsKept kept storage (Some kinds.Punch) start = ⊥
RunsKept kept storage (Some kinds.Printer) start = ⊥
RunsKept kept storage None start = ⊥

-- the serve of a device needs more than that: its program is no minidisk's that is kept and may run
-- again
pub record IsNoneKept (device user : ℕ) (e : Equipped) (supply : FrameSupply)
    (kept : ReuseValue) : Type 0 where
  pub storage : Dat
  pub lent : IsLentSo storage user e supply
  pub none : RunsKept kept storage (kind_at e.devices e.disks device)
      (program_of device e.machine.core.subchannels) → ⊥

-- ---- events

-- the programs of a user's devices are kept so, and those of all other users as they were
pub record HasKept (user : ℕ) (old new : SystemView)
    (Keeps : ReuseValue → ReuseValue → Type 0) : Type 0 where
  pub own : Keeps (kept_at old user) (kept_at new user)
  pub others : new.kept ≡ slice_set old.kept user (kept_at new user)

-- how a line ends that is answered so, and a serve
abbrev pub line_ended : Result LineOutcome LineError → Ended
line_ended (Ok reported) = ends.Done
line_ended (Err error) = ends.FramesOut

-- how a serve ends
abbrev pub serve_ended : Result Bool LineError → Ended
serve_ended (Ok done) = ends.Served done
serve_ended (Err error) = ends.FramesOut

-- a line of a user that ends so, and a serve of a device of his
pub record LineKept (user : ℕ) (typed : List ℕ) (old : SystemView) (ended : Ended)
    (new : SystemView) : Type 0 where
  pub result : Result LineOutcome LineError
  pub ends : ended ≡ line_ended result
  pub kept : HasKept user old new (LineKeeps typed (user_at old user) result)

-- what a serve did to the user's cached programs
pub record ServeKept (user device : ℕ) (old : SystemView) (ended : Ended)
    (new : SystemView) : Type 0 where
  pub result : Result Bool LineError
  pub ends : ended ≡ serve_ended result
  pub kept : HasKept user old new (ServeKeeps device user (user_at old user) old.supply result)

-- a line of a user that is refused memory, itself or for what comes of it
pub record LineKeptShort (user : ℕ) (typed : List ℕ) (old new : SystemView) : Type 0 where
  pub result : Result LineOutcome LineError
  pub kept : HasKept user old new (LineKeeps typed (user_at old user) result)

-- an event that ends so leaves the programs that are kept so: a line and a serve those of their
-- user, any other event all of them
abbrev pub EventKeeps : SystemView → Event → Ended → SystemView → Type 0
EventKeeps old (Run user units) ended new = new.kept ≡ old.kept
EventKeeps old (Line user typed) ended new = LineKept user typed.now old ended new
EventKeeps old (Tick user) ended new = new.kept ≡ old.kept
EventKeeps old (Deck user cards) ended new = new.kept ≡ old.kept
EventKeeps old (Serve user device) ended new = ServeKept user device old ended new
EventKeeps old (Transfer user id to) ended new = new.kept ≡ old.kept

-- and so does an event that is refused memory
abbrev pub KeepsCutShort : SystemView → Event → SystemView → Type 0
KeepsCutShort old (Run user units) new = new.kept ≡ old.kept
KeepsCutShort old (Line user typed) new = LineKeptShort user typed.now old new
KeepsCutShort old (Tick user) new = new.kept ≡ old.kept
KeepsCutShort old (Deck user cards) new = new.kept ≡ old.kept
KeepsCutShort old (Transfer user id to) new = new.kept ≡ old.kept
KeepsCutShort old (Serve user device) new =
    HasKept user old new (ServeKeeps device user (user_at old user) old.supply (Err errors.Memory))
