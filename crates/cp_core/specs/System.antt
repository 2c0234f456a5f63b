-- The whole system as it is seen.
use Rattle.std.specs.Prelude.{ℕ, Bool, List, [], ◌∷◌, map, min, slice_index_or}
use Rattle.std.specs.List.{sum_by}
use Rattle.ckd_volume.specs.Volume.{VolumeFormat}
use Rattle.user_names.specs.Users.{name_of}
use Rattle.cp_directory.specs.Users.{DirectoryUser}
use Rattle.cp_frames.specs.Layout.{FrameSupply}
use Rattle.machine_panel.specs.Machine.{Machine}
use Rattle.machine_devices.specs.Equipped.{Equipped, nobody}
use Rattle.machine_devices.specs.UserDirectory.{UserDirectory, is_logged_on}
use Rattle.cp_volumes.specs.Shared.{Placement, placements_of}
use Rattle.cp_resident.specs.Reuse.{ReuseValue, kept_none}
use Rattle.cp_core.specs.UserMachines.{UserParts, user_with}
use Rattle.machine_devices.specs.declared.files.FileNote.{FileNote}

-- each user's machine with its devices, the users of the directory, where pages are and how many
-- have come, what each file was when it got its number and whose it is, the volumes as they are
-- now, where each user's minidisks are on them, the programs that are kept of each user's
-- devices, and whether lack of memory has ended the system
pub record SystemView : Type 0 where
  pub users : List Equipped
  pub directory : List DirectoryUser
  pub supply : FrameSupply
  pub files : List FileNote
  pub volumes : List VolumeFormat
  pub placements : List (List Placement)
  pub kept : List ReuseValue
  pub is_spent : Bool

-- the users that these are with these volumes and storages
abbrev pub users_of : List UserParts → List VolumeFormat → List (List ℕ) → List Equipped
users_of [] volumes storages = []
users_of (u ∷ us) volumes [] = []
users_of (u ∷ us) volumes (bytes ∷ storages) =
    user_with u volumes bytes ∷ users_of us volumes storages

-- where the minidisks of each user are
abbrev pub placements_among : List UserParts → List (List Placement)
placements_among users = map (λ (u : UserParts). placements_of u.minidisks) users

-- the cached programs of each user
abbrev pub kept_of : List UserParts → List ReuseValue
kept_of users = map (λ (u : UserParts). u.reuse) users

-- a user's machine with its devices
abbrev pub user_at : SystemView → ℕ → Equipped
user_at s user = slice_index_or s.users user nobody

-- his machine alone
abbrev pub machine_at : SystemView → ℕ → Machine
machine_at s user = (user_at s user).machine

-- where his minidisks are
abbrev pub placements_at : SystemView → ℕ → List Placement
placements_at s user = slice_index_or s.placements user []

-- the programs that are kept of his devices
abbrev pub kept_at : SystemView → ℕ → ReuseValue
kept_at s user = slice_index_or s.kept user (kept_none 0)

-- how often programs of devices were run again as they were kept, which stays at its greatest value
abbrev pub reuses_in : List ReuseValue → ℕ
reuses_in kept = min (sum_by (λ (r : ReuseValue). r.reuses) kept) 18446744073709551615

-- ---- what is known next to the machine of a user

-- the names of all users
abbrev pub names_of : List DirectoryUser → List (List ℕ)
names_of directory = map (λ (user : DirectoryUser). user.name) directory

-- whether each of these is logged on
abbrev pub logged_on_of : List Equipped → List Bool
logged_on_of users = map (λ (e : Equipped). is_logged_on e.machine.mode) users

-- these users by their names, one of them by his, and who of them is logged on
abbrev pub world_among : List DirectoryUser → ℕ → List Bool → UserDirectory
world_among directory user on =
    record { names = names_of directory; own = name_of (names_of directory) user; on = on }

-- the users whom the machine of one user knows
abbrev pub world_of : SystemView → ℕ → UserDirectory
world_of s user = world_among s.directory user (logged_on_of s.users)
