-- The channels of a machine: the programs of its devices run on them, and its disks hang on them.
use Rattle.std.specs.Prelude.{ℕ, ◌≡◌, ◌*◌, ◌<◌, ◌⊎◌, Bool, true, List, length, set, slice_get}
use Rattle.std.specs.Prelude.{Option, Some, None, Result, IfErr}
use Rattle.s370_store.specs.Access.{IsAbsent}
use Rattle.s370_walk.specs.declared.parts.Ending.{Ending}
use Rattle.s370_store.specs.Memory.{Memory}
use Rattle.s370_walk.specs.Hardware.{Machine}
use Rattle.s370_walk.specs.Short.{nothing_needed}
use Rattle.s370_walk.specs.Walk.{Over, Reaches, live}
use Rattle.s370_channel.specs.declared.running.ChannelError.{ChannelError}
use Rattle.s370_channel.specs.declared.running.ChannelError.TheVariants as errors
use Rattle.s370_channel.specs.declared.words.Caw.{Caw}
use Rattle.s370_channel.specs.Guest.{guest_written}
use Rattle.s370_channel.specs.Loading.{loading, loading_limits}
use Rattle.s370_channel.specs.Progress.{setting}
use Rattle.s370_channel.specs.Reading.{Reading}
use Rattle.s370_channel.specs.Runs.{IsStopped, Walks, begun, limited}
use Rattle.s370_channel.specs.Supplied.{EachSuch, IsTouched}
use Rattle.ckd_volume.specs.Unit.{Disk, disk_machine, rested}
use Rattle.machine_channels.specs.Disks.{DiskAt}

-- ---- a program

-- it runs on a disk, which is then at rest
pub record RestsAfter (reads : Reading) (start : Caw) (old : Memory) (disk : DiskAt)
    (ending : Ending) (new : Memory) (left : DiskAt) : Type 0 where
  pub unit : Disk
  pub walk : Walks reads disk_machine start old disk.unit ending new unit
  pub rest : left ≡ record disk { unit = rested unit }

-- the same on one of some disks; the others stay
pub record WalksOn (reads : Reading) (start : Caw) (old : Memory) (disks : List DiskAt) (index : ℕ)
    (disk : DiskAt) (ending : Ending) (new : Memory) (disks' : List DiskAt) : Type 0 where
  pub left : DiskAt
  pub one : RestsAfter reads start old disk ending new left
  pub rest : disks' ≡ set disks index left

-- the walk of a program over a disk, if there is one of this index
abbrev pub WalksAt : Reading → Caw → Memory → List DiskAt → ℕ → Option DiskAt → Ending → Memory
    → List DiskAt → Type 0
WalksAt reads start old disks index (Some disk) ending new disks' =
    WalksOn reads start old disks index disk ending new disks'
WalksAt reads start old disks index None ending new disks' = ⊥

-- the walk of a program over the disk of this index, which is at rest after it
abbrev pub WalksDisk : Reading → Caw → Memory → List DiskAt → ℕ → Ending → Memory → List DiskAt
    → Type 0
WalksDisk reads start old disks index ending new disks' =
    WalksAt reads start old disks index (slice_get disks index) ending new disks'

-- ---- the program of an initial program loading

-- the walk of an initial program loading over a device
abbrev pub WalksLoading : {D : Type 0} → Machine D → Memory → D → Ending → Memory → D → Type 0
WalksLoading machine old part ending new part' =
    Reaches (live guest_written) (setting machine loading_limits) (loading machine old part)
    (Over ending new part')

-- the walk of an initial program loading over a disk, which is at rest after it
pub record RestsLoaded (old : Memory) (disk : DiskAt) (ending : Ending) (new : Memory)
    (left : DiskAt) : Type 0 where
  pub unit : Disk
  pub walk : WalksLoading disk_machine old disk.unit ending new unit
  pub rest : left ≡ record disk { unit = rested unit }

-- that walk over one disk leaves all others
pub record LoadsOn (old : Memory) (disks : List DiskAt) (index : ℕ) (disk : DiskAt)
    (ending : Ending) (new : Memory) (disks' : List DiskAt) : Type 0 where
  pub left : DiskAt
  pub one : RestsLoaded old disk ending new left
  pub rest : disks' ≡ set disks index left

-- that walk over a disk, if there is one of this index
abbrev pub LoadsAt : Memory → List DiskAt → ℕ → Option DiskAt → Ending → Memory → List DiskAt
    → Type 0
LoadsAt old disks index (Some disk) ending new disks' =
    LoadsOn old disks index disk ending new disks'
LoadsAt old disks index None ending new disks' = ⊥

-- that walk over the disk of this index
abbrev pub LoadsDisk : Memory → List DiskAt → ℕ → Ending → Memory → List DiskAt → Type 0
LoadsDisk old disks index ending new disks' =
    LoadsAt old disks index (slice_get disks index) ending new disks'

-- ---- why a program is not run to its end

-- there is no room for a page, where such pages may be held with it: there is none for any page, or
-- each that is present is held
abbrev pub NoRoom : {S : Type 0} → (S → ℕ → Type 0) → (S → ℕ → Type 0) → (S → ℕ → Bool) → S
    → (ℕ → Type 0) → ℕ → Type 0
NoRoom IsOut IsFilled present storage Needs page =
    IsOut storage page ⊎ (IsFilled storage page
    × ((held : ℕ) → present storage held ≡ true → Needs held))

-- there is no room for a page of a storage of this size that is needed
pub record IsOutOfFrames (size : ℕ) (Needs IsOut : ℕ → Type 0) : Type 0 where
  pub page : ℕ
  pub inside : page * 4096 < size
  pub needed : Needs page
  pub out : IsOut page

-- that is reported, with what holds then, and nothing where memory was refused
abbrev pub WhereOut : ℕ → (ℕ → Type 0) → (ℕ → Type 0) → Type 0 → ChannelError → Type 0
WhereOut size Needs IsOut P errors.Memory = Unit {0}
WhereOut size Needs IsOut P (errors.Absent page) = IsOutOfFrames size Needs IsOut × P

-- what is run as a whole or not at all is refused only where there is no room for a page that it
-- needs, if memory is not refused; storage and devices have not changed then
abbrev pub RefusesWhole : {S D : Type 0} → Bool → (S → Memory) → (S → (ℕ → Type 0) → ℕ → Type 0) → S
    → D → (ℕ → Type 0) → Result Ending ChannelError → S → D → Type 0
RefusesWhole is_whole memory NoRoomFor old part needs result new part' = is_whole ≡ true
    → IfErr result (WhereOut (length (memory old).bytes) needs (NoRoomFor new needs)
    ((memory new ≡ memory old) × (part' ≡ part)))

-- a device that is never refused memory stops only at an absent page
abbrev pub StopsForPage : {D : Type 0} → Machine D → (ℕ → Bool) → Caw → Memory → D → ChannelError
    → Type 0
StopsForPage machine present start m part errors.Memory = ⊥
StopsForPage machine present start m part (errors.Absent page) =
    IsStopped machine nothing_needed present start m part (errors.Absent page)

-- the program of a disk stops at an absent page
abbrev pub StopsDisk : (ℕ → Bool) → Caw → Memory → Option DiskAt → ChannelError → Type 0
StopsDisk present start m (Some disk) error =
    StopsForPage disk_machine present start m disk.unit error
StopsDisk present start m None error = ⊥

-- Memory was refused to a disk's program with room for its pages: what that is of any device, the
-- channels say.
abbrev pub DiskHadRoom : {S : Type 0} → ((D : Type 0) → Machine D → S → Caw → D → S → Type 0) → S
    → Caw → Option DiskAt → S → Type 0
DiskHadRoom HadRoom old start (Some disk) new = HadRoom Disk disk_machine old start disk.unit new
DiskHadRoom HadRoom old start None new = ⊥

-- memory was refused to a disk's program of an IPL with room for its pages
abbrev pub DiskHadRoomToLoad : {S : Type 0} → ((D : Type 0) → Machine D → S → D → S → Type 0) → S
    → Option DiskAt → S → Type 0
DiskHadRoomToLoad HadRoom old (Some disk) new = HadRoom Disk disk_machine old disk.unit new
DiskHadRoomToLoad HadRoom old None new = ⊥

-- how often a page may be paged in for a device that is served
abbrev pub serve_times : ℕ
serve_times = 2

-- how often a page may be paged in for an IPL
abbrev pub load_times : ℕ
load_times = 4

-- from one storage to the other pages were brought, in units, each of which is such
abbrev pub Brings : {S : Type 0} → (S → List (List ℕ) → S → Type 0) → S → (ℕ → Type 0) → S → Type 0
Brings Came old IsSuch new = (units : List (List ℕ)) × Came old units new × EachSuch IsSuch units

-- ---- the pages that a program needs

-- those that are held together for it, where it is copied, and those that its walk touches
abbrev pub ProgramNeeds : {D : Type 0} → (Memory → ℕ → ℕ → Type 0) → Machine D → Caw → Memory → D
    → ℕ → Type 0
ProgramNeeds holds machine start m part page =
    holds m start.address page
    ⊎ IsTouched guest_written (limited machine start) (begun start m part) page

-- the program of a disk needs this page
abbrev pub DiskNeeds : (Memory → ℕ → ℕ → Type 0) → Caw → Memory → Option DiskAt → ℕ → Type 0
DiskNeeds holds start m (Some disk) page = ProgramNeeds holds disk_machine start m disk.unit page
DiskNeeds holds start m None page = ⊥

-- those that the walk of a loading touches, and that of the PSW
abbrev pub LoadNeeds : {D : Type 0} → Machine D → Memory → D → ℕ → Type 0
LoadNeeds machine m part page =
    (page ≡ 0) ⊎ IsTouched guest_written (setting machine loading_limits) (loading machine m part)
    page

-- the initial program loading from a disk needs this page
abbrev pub DiskLoads : Memory → Option DiskAt → ℕ → Type 0
DiskLoads m (Some disk) page = LoadNeeds disk_machine m disk.unit page
DiskLoads m None page = ⊥

-- at an absent page of the storage, which is not present, and of nothing else
abbrev pub LacksPage : ℕ → (ℕ → Bool) → ChannelError → Type 0
LacksPage size present errors.Memory = ⊥
LacksPage size present (errors.Absent page) = IsAbsent size present page.0
