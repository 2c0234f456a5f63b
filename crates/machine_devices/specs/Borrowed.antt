-- What a line, an IPL and a serve leave of what they borrow, in the words of the traits of its
-- storage and of its channels.
use Rattle.std.specs.Prelude.{◌≡◌, ◌<◌, ℕ, Bool, true, false, List, [], length, Option}
use Rattle.std.specs.Prelude.{IfErr, IfOk, OnErr, OnOk, Result, Err}
use Rattle.s370_store.specs.declared.Storage.{Ghosts as Storage}
use Rattle.s370_store.specs.declared.supply.Supply.{Ghosts as Supply}
use Rattle.s370_store.specs.Access.{IsAbsent, Touches}
use Rattle.s370_intr.specs.Run.{AllNeeded, IsLacking}
use Rattle.s370_walk.specs.declared.parts.Ending.{Ending}
use Rattle.s370_channel.specs.Runs.{Walks}
use Rattle.s370_channel.specs.declared.running.ChannelError.{ChannelError}
use Rattle.s370_channel.specs.declared.running.ChannelError.TheVariants as refusals
use Rattle.s370_channel.specs.declared.words.Caw.{Caw}
use Rattle.unit_record.specs.Reader.{ReaderState, reader_machine}
use Rattle.machine_panel.specs.Machine.{Parts}
use Rattle.machine_panel.specs.declared.line.LineError.{LineError}
use Rattle.machine_panel.specs.declared.line.LineError.TheVariants as errors
use Rattle.machine_channels.specs.declared.channels.Channels.{Ghosts as Channels}
use Rattle.machine_channels.specs.declared.channels.Disks.{Ghosts as Disks}
use Rattle.machine_channels.specs.Channels.{Brings, IsOutOfFrames, LacksPage, LoadNeeds, NoRoom}
use Rattle.machine_channels.specs.Channels.{ProgramNeeds, StopsForPage, WalksLoading, WhereOut}
use Rattle.machine_channels.specs.Channels.{load_times, serve_times}
use Rattle.cp_spool.specs.Alike.{reader_of}
use Rattle.cp_spool.specs.Queues.{QueuesValue, files_of}
use Rattle.cp_spool.specs.Reader.{FeedState, ReaderPart, feed_machine}
use Rattle.machine_devices.specs.declared.line.LineOutcome.{LineOutcome}
use Rattle.machine_devices.specs.declared.places.AttachedDevice.{AttachedDevice}
use Rattle.machine_devices.specs.Comes.{LineHadRoom, LineMay, LoadWants, is_ipl}
use Rattle.machine_devices.specs.Equipped.{Equipped, equipped}
use Rattle.machine_devices.specs.Lent.{DevicesParts, KeepsOtherUsers, devices_on}
use Rattle.machine_devices.specs.Lines.{IsLine, KindLoads, LoadHadRoom, LoadsKind, can_load}
use Rattle.machine_devices.specs.Lines.{logged_off, outcome, requested}
use Rattle.machine_devices.specs.Requests.{needs_of, switches}
use Rattle.machine_devices.specs.declared.request.Request.{Request}
use Rattle.machine_devices.specs.Reuses.{LineForgets, LoadForgets, MayHaveRun, StartReuses}
use Rattle.machine_devices.specs.Serve.{IsServedAt, RunsKind, StartNeeds}
use Rattle.machine_devices.specs.Stopped.{StartHadRoom, StopsProgram}
use Rattle.machine_devices.specs.UserDirectory.{UserDirectory}

-- a machine's devices without their files, the files of all users, the machine, its storage and its
-- channels
pub record Borrowed (C S : Type 0) : Type 0 where
  pub devices : DevicesParts
  pub queues : QueuesValue
  pub machine : Parts
  pub storage : S
  pub channels : C

-- all that, as a function borrows it
abbrev pub borrowed : {C S : Type 0} → DevicesParts → QueuesValue → Parts → S → C → Borrowed C S
borrowed devices queues machine storage channels = record {
  devices = devices;
  queues = queues;
  machine = machine;
  storage = storage;
  channels = channels;
}

-- the machine with its devices and its disks
abbrev pub machine_in : {C S : Type 0} → Disks C → Storage S → Borrowed C S → Equipped
machine_in disks storage b =
    equipped b.machine (devices_on b.devices b.queues) (disks.disks b.channels)
    (storage.memory b.storage)

-- the reader of this user, with its decks
abbrev pub reader_on : QueuesValue → ℕ → ReaderPart → ReaderState
reader_on queues user part = reader_of (files_of queues.users user) part

module _ {C S : Type 0} (channels : Channels C S) (storage : Storage S) where
  -- there is no room for a page of those that are needed
  abbrev pub IsOut : (ℕ → Type 0) → S → S → Type 0
  IsOut Needs old new =
      IsOutOfFrames (length (storage.memory old).bytes) Needs
      (NoRoom channels.IsOut channels.IsFilled storage.present new Needs)

  -- an error that is no refusal of memory reports that, and then this holds
  abbrev pub ReportsOut : {T : Type 0} → (ℕ → Type 0) → S → S → Type 0 → Result T ChannelError
      → Type 0
  ReportsOut Needs old new P r =
      IfErr r (WhereOut (length (storage.memory old).bytes) Needs
      (NoRoom channels.IsOut channels.IsFilled storage.present new Needs) P)

  -- a program with this start runs on a reader that feeds from the queue of its user
  pub record RunsFed (start : Caw) (old new : S) (before after : ReaderState)
      (r : Result Ending ChannelError) : Type 0 where
    pub walk : IfOk r (λ ending. Walks channels.reads reader_machine start (storage.memory old)
        before ending (storage.memory new) after)
    pub stopped : channels.is_whole ≡ false
        → IfErr r (StopsForPage reader_machine (storage.present old) start (storage.memory old)
        before)
    pub roomy : channels.is_whole ≡ true → r ≡ Err refusals.Memory
        → ((feed : FeedState) × channels.HadRoom FeedState feed_machine old start feed new)
    pub paged_in : Brings (channels.Came serve_times) old
        (ProgramNeeds channels.holds reader_machine start (storage.memory old) before) new
    pub ready : channels.IsReady new

  -- the program of an initial program loading runs on such a reader
  pub record LoadsFed (old new : S) (before after : ReaderState)
      (r : Result Ending ChannelError) : Type 0 where
    pub walk : IfOk r (λ ending. WalksLoading reader_machine (storage.memory old) before ending
        (storage.memory new) after)
    pub lacks : channels.is_whole ≡ false
        → IfErr r (LacksPage (length (storage.memory old).bytes) (storage.present old))
    pub whole : channels.is_whole ≡ true
        → ReportsOut (LoadNeeds reader_machine (storage.memory old) before) old new
        (storage.memory new ≡ storage.memory old) r
    pub roomy : channels.is_whole ≡ true → r ≡ Err refusals.Memory
        → ((feed : FeedState) × channels.HadRoomToLoad FeedState feed_machine old feed new)
    pub there : channels.is_whole ≡ true → OnOk r (storage.present new 0 ≡ true)
    pub pages_unchanged : channels.is_whole ≡ false → storage.present new ≡ storage.present old
    pub paged_in : Brings (channels.Came load_times) old
        (LoadNeeds reader_machine (storage.memory old) before) new
    pub ready : channels.IsReady new

module _ {C S : Type 0} (channels : Channels C S) (disks : Disks C) (storage : Storage S) where
  -- how an IPL ends, before and after which the machine is so
  pub record LoadEndsAs (kind : Option AttachedDevice) (device : ℕ) (before after : Equipped)
      (old new : Borrowed C S) (r : Result LineOutcome LineError) : Type 0 where
    pub ok : IfOk r (λ reported. LoadsKind kind device before reported after)
    pub lacks : channels.is_whole ≡ false → r ≡ Err errors.FramesOut
        → ((page : ℕ) × IsAbsent (length (storage.memory old.storage).bytes)
        (storage.present old.storage) page)
    pub unchanged_without_frames : channels.is_whole ≡ true → r ≡ Err errors.FramesOut
        → after ≡ before
    pub out : channels.is_whole ≡ true → r ≡ Err errors.FramesOut
        → IsOut channels storage (KindLoads kind before) old.storage new.storage
    pub roomy : channels.is_whole ≡ true → r ≡ Err errors.Memory
        → LoadHadRoom channels.HadRoomToLoad old.storage new.storage kind before
    pub takes : r ≡ Err errors.Memory → can_load kind ≡ true
    pub memory : channels.is_whole ≡ false → r ≡ Err errors.Memory → old.machine.room < 2
    pub paged_in : Brings (channels.Came load_times) old.storage (KindLoads kind before)
        new.storage
    pub ready : channels.IsReady new.storage
    pub dropped : OnOk r (LoadForgets disks.Forgets old.channels new.channels (can_load kind))
    pub kept : channels.is_whole ≡ true → r ≡ Err errors.FramesOut → new.channels ≡ old.channels
    pub others : disks.KeepsOthers old.channels new.channels
    pub other_users : KeepsOtherUsers old.devices old.queues new.devices new.queues

  -- how an IPL from a device of this kind ends
  abbrev pub LoadEnds : Option AttachedDevice → ℕ → Borrowed C S → Borrowed C S
      → Result LineOutcome LineError → Type 0
  LoadEnds kind device old new r =
      LoadEndsAs kind device (machine_in disks storage old) (machine_in disks storage new) old
      new r

  -- what the program with this start leaves of a device of this kind, if it ran
  abbrev pub Runs : AttachedDevice → ℕ → Caw → Borrowed C S → Borrowed C S → Type 0
  Runs kind device start old new =
      RunsKind channels.reads kind device start (machine_in disks storage old)
      (machine_in disks storage new)

  -- what a serve leaves of the device of this address, and whether it was working
  abbrev pub IsServed : ℕ → Borrowed C S → Bool → Borrowed C S → Type 0
  IsServed device old done new =
      IsServedAt channels.reads device (machine_in disks storage old) done
      (machine_in disks storage new)

  -- why a serve is refused, and what it leaves either way, before and after which the machine is so
  pub record ServeEndsAs {T : Type 0} (kind : Option AttachedDevice) (start : Option Caw)
      (before after : Equipped) (old new : Borrowed C S) (r : Result T ChannelError) : Type 0 where
    pub whole : channels.is_whole ≡ true
        → ReportsOut channels storage (StartNeeds channels.holds kind start before) old.storage
        new.storage (after ≡ before) r
    pub roomy : channels.is_whole ≡ true → r ≡ Err refusals.Memory
        → StartHadRoom channels.reads channels.HadRoom old.storage new.storage kind start before
    pub stopped : channels.is_whole ≡ false
        → IfErr r (StopsProgram channels.reads (storage.present old.storage) kind start before)
    pub paged_in : Brings (channels.Came serve_times) old.storage
        (StartNeeds channels.holds kind start before) new.storage
    pub ready : channels.IsReady new.storage
    pub kept : OnOk r (StartReuses channels.Reuses channels.ReusesDisk old.channels old.storage
        new.channels kind start true)
    pub kept_if_refused : OnErr r ((done : Bool) × MayHaveRun kind done
        × StartReuses channels.Reuses channels.ReusesDisk old.channels old.storage new.channels
        kind start done)
    pub others : disks.KeepsOthers old.channels new.channels
    pub other_users : KeepsOtherUsers old.devices old.queues new.devices new.queues

  -- how the serve of a device of this kind ends whose program has this start
  abbrev pub ServeEnds : {T : Type 0} → Option AttachedDevice → Option Caw → Borrowed C S
      → Borrowed C S → Result T ChannelError → Type 0
  ServeEnds kind start old new r =
      ServeEndsAs kind start (machine_in disks storage old) (machine_in disks storage new) old
      new r

-- how a LOGOFF ends
pub record LogoffEnds (old new : Equipped) (r : Result LineOutcome LineError) : Type 0 where
  pub ok : IfOk r (λ reported. outcome new reported ≡ logged_off old)
  pub err : OnErr r (new ≡ old)

-- how a line ends, before and after which the machine is so
pub record LineEnds (is_whole : Bool) (w : UserDirectory) (typed : List ℕ) (old new : Equipped)
    (r : Result LineOutcome LineError) : Type 0 where
  pub ok : IfOk r (λ reported. IsLine w typed old reported new)
  pub err : is_ipl (requested typed old) ≡ false → OnErr r (new ≡ old)
  pub unchanged_without_frames : is_whole ≡ true → r ≡ Err errors.FramesOut → new ≡ old
  pub memory : r ≡ Err errors.Memory → LineMay w typed old

-- which cached programs a line drops that asks this of such a machine, and what channels keep
pub record LineDrops {C : Type 0} (is_whole : Bool) (disks : Disks C) (asked : Request)
    (e : Equipped) (old new : C) (r : Result LineOutcome LineError) : Type 0 where
  pub others : disks.KeepsOthers old new
  pub dropped : OnOk r (LineForgets disks.Forgets old new asked e)
  pub kept : is_ipl asked ≡ false → OnErr r (new ≡ old)
  pub kept_without_room : is_whole ≡ true → r ≡ Err errors.FramesOut → new ≡ old

-- which pages it brings, and where there is no room for one; a line that switches the machine gives
-- back all its pages
pub record LinePagesIn {C S : Type 0} (channels : Channels C S) (storage : Storage S)
    (supplies : Supply S) (asked : Request) (e : Equipped) (old new : S)
    (r : Result LineOutcome LineError) : Type 0 where
  pub frames : is_ipl asked ≡ false → r ≡ Err errors.FramesOut
      → IsLacking (Touches (needs_of asked)) (length (storage.memory old).bytes)
      (supplies.IsShort new)
  pub lacks : is_ipl asked ≡ true → channels.is_whole ≡ false → r ≡ Err errors.FramesOut
      → ((page : ℕ) × IsAbsent (length (storage.memory old).bytes) (storage.present old) page)
  pub out : is_ipl asked ≡ true → channels.is_whole ≡ true → r ≡ Err errors.FramesOut
      → IsOut channels storage (LoadWants asked e) old new
  pub roomy : is_ipl asked ≡ true → channels.is_whole ≡ true → r ≡ Err errors.Memory
      → LineHadRoom channels.HadRoomToLoad old new asked e
  pub cleared : switches asked ≡ true → OnOk r (supplies.Cleared old new)
  pub not_cleared : switches asked ≡ true → OnErr r (supplies.Brought old [] new)
  pub supply : switches asked ≡ false → is_ipl asked ≡ false
      → ((pages : List ℕ) × supplies.Brought old pages new
      × AllNeeded (Touches (needs_of asked)) pages)
  pub paged_in : is_ipl asked ≡ true
      → Brings (channels.Came load_times) old (LoadWants asked e) new × channels.IsReady new
  pub size : length (storage.memory new).bytes ≡ length (storage.memory old).bytes
