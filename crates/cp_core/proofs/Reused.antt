-- What is kept of the programs of a user's devices: what his channels keep, as a work on his machine leaves it.
use Rattle.std.proofs.Common.{◌≡◌, ap, refl, ℕ, Bool, true, false, Option, None, Some}
use Rattle.s370_channel.specs.declared.words.Caw.{Caw}
use Rattle.machine_channels.specs.declared.channels.UnitRecord.{UnitRecord}
use Rattle.machine_devices.specs.declared.places.AttachedDevice.{AttachedDevice}
use Rattle.machine_devices.specs.declared.places.AttachedDevice.TheVariants as kinds
use Rattle.machine_devices.specs.declared.request.Request.{Request}
use Rattle.machine_devices.specs.declared.request.Request.TheVariants.{LogsOn, LogsOff, Resets, Types, Loads, Asks}
use Rattle.machine_devices.specs.declared.request.Request.TheVariants.{Alone}
use Rattle.machine_devices.specs.Devices.{kind_at}
use Rattle.machine_devices.specs.Equipped.{Equipped}
use Rattle.machine_devices.specs.Lines.{can_load}
use Rattle.machine_devices.specs.Reuses.{LineForgets, LoadForgets, MayHaveRun, StartReuses}
use Rattle.cp_dat.specs.declared.dat.Dat.{Dat}
use Rattle.cp_resident.specs.Reuse.{HasReused, HasReusedDisk, ReuseValue}
use Rattle.cp_resident.specs.GuestChannels.{Forgets, reuse_of}
use Rattle.cp_resident.specs.declared.resident.GuestChannels.{GuestChannels}
use Rattle.cp_core.specs.Keeps.{IsForgotten, RunsKept, Starts}

-- how the channels of a user keep programs
abbrev pub UnitReuses : GuestChannels → Dat → Caw → UnitRecord → Bool → GuestChannels → Type 0
UnitReuses r d start unit done s = HasReused (reuse_of r) d start unit done (reuse_of s)

abbrev pub DiskReuses : GuestChannels → Dat → Caw → ℕ → Bool → GuestChannels → Type 0
DiskReuses r d start index done s = HasReusedDisk (reuse_of r) d start index done (reuse_of s)

-- A program that starts reuses the cached one exactly where the machine says so.
pub starts : (r s : GuestChannels) (d : Dat) (kind : Option AttachedDevice) (start : Option Caw) (done : Bool)
    → StartReuses UnitReuses DiskReuses r d s kind start done → Starts (reuse_of r) d (reuse_of s) kind start done
starts r s d None start done same = ap reuse_of same
starts r s d (Some kind) None done same = ap reuse_of same
starts r s d (Some kinds.Console) (Some start) done ran = ran
starts r s d (Some kinds.Reader) (Some start) done ran = ran
starts r s d (Some kinds.Punch) (Some start) done ran = ran
starts r s d (Some kinds.Printer) (Some start) done ran = ran
starts r s d (Some (kinds.Disk index)) (Some start) done ran = ran

loads : (r s : GuestChannels) (b : Bool) → LoadForgets Forgets r s b
    → LoadForgets IsForgotten (reuse_of r) (reuse_of s) b
loads r s true left = left
loads r s false left = ap reuse_of left

-- A line forgets cached programs exactly where the machine says so.
pub forgets : (r s : GuestChannels) (asked : Request) (e : Equipped) → LineForgets Forgets r s asked e
    → LineForgets IsForgotten (reuse_of r) (reuse_of s) asked e
forgets r s LogsOn e left = left
forgets r s LogsOff e left = left
forgets r s Resets e left = left
forgets r s (Loads device) e left = loads r s (can_load (kind_at e.devices e.disks device)) left
forgets r s Types e left = ap reuse_of left
forgets r s (Asks command) e left = ap reuse_of left
forgets r s (Alone asked) e left = ap reuse_of left

-- a refused serve of which this much is so has no minidisk's program that may run again
pub none_kept : (old new : ReuseValue) (d : Dat) (kind : Option AttachedDevice) (start : Option Caw) (done : Bool)
    → MayHaveRun kind done → Starts old d new kind start done → RunsKept old d kind start → ⊥
none_kept old new d None start done cut ran runs = runs
none_kept old new d (Some kinds.Console) start done cut ran runs = runs
none_kept old new d (Some kinds.Reader) start done cut ran runs = runs
none_kept old new d (Some kinds.Punch) start done cut ran runs = runs
none_kept old new d (Some kinds.Printer) start done cut ran runs = runs
none_kept old new d (Some (kinds.Disk index)) None done cut ran runs = runs
none_kept old new d (Some (kinds.Disk index)) (Some start) done cut ran runs =
    let on = ran.spare runs in cc

-- where a device has no program, all is as it was
pub none_starts : {C S : Type 0} (Reuses : C → S → Caw → UnitRecord → Bool → C → Type 0)
    (ReusesDisk : C → S → Caw → ℕ → Bool → C → Type 0) (c : C) (s : S) (kind : Option AttachedDevice) (done : Bool)
    → StartReuses Reuses ReusesDisk c s c kind None done
none_starts Reuses ReusesDisk c s None done = refl
none_starts Reuses ReusesDisk c s (Some kind) done = refl
