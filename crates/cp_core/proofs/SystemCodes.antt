-- Bytes are those of one system, but for the programs that it keeps.
use Rattle.std.specs.Prelude.{ℕ, ◌≡◌, ◌<◌, refl, Bool, List, [], ◌∷◌, ◌++◌, length, map, option_map}
use Rattle.std.proofs.Common.{sym, ◌∙◌, ap, get_or, subst, append_assoc}
use Rattle.std.proofs.lemmas.Option.{slice_get-map}
use Rattle.saved_bytes.specs.Codes.{both, each, flag, number, IsCode}
use Rattle.saved_bytes.proofs.Codes.{both_code, each_code, flag_code, number_code, of_parts, one_value}
use Rattle.ckd_saved.specs.Saved.{volume_bytes}
use Rattle.ckd_saved.proofs.VolumeCodes.{volume_code}
use Rattle.ckd_volume.specs.Volume.{VolumeFormat}
use Rattle.cp_directory.specs.Users.{DirectoryUser}
use Rattle.cp_frames.specs.Layout.{Pool}
use Rattle.cp_frames.specs.Saved.{pool_bytes}
use Rattle.cp_frames.proofs.PoolCodes.{pool_code}
use Rattle.cp_spool.specs.Queues.{QueuesValue}
use Rattle.cp_spool.specs.Saved.{files_bytes}
use Rattle.cp_spool.proofs.FileCodes.{files_code}
use Rattle.cp_volumes.specs.Saved.{disk_bytes}
use Rattle.cp_volumes.proofs.DiskCodes.{disk_code}
use Rattle.cp_volumes.specs.Shared.{Placement, placements_of}
use Rattle.machine_panel.specs.Saved.{saved_parts_bytes}
use Rattle.machine_panel.proofs.MachineCodes.{saved_parts_code}
use Rattle.machine_devices.specs.Equipped.{Equipped}
use Rattle.machine_devices.specs.Saved.{devices_bytes, note_bytes}
use Rattle.machine_devices.proofs.DeviceCodes.{devices_code, note_code}
use Rattle.machine_devices.specs.declared.files.FileNote.{FileNote}
use Rattle.cp_core.specs.System.{SystemView, placements_among, users_of}
use Rattle.cp_core.specs.UserMachines.{SeatParts, seat_on, seats_on, user_with}
use Rattle.cp_core.specs.Saved.{IsOneBySaved, IsSaved, SavedSystem, SavedUser, saved_user, system_bytes, user_bytes}
use Rattle.cp_core.specs.Saved.{IsUserSaved, user_of, user_part_bytes, view_of}
use Rattle.machine_devices.proofs.Dropping.{there_at}
use Rattle.cp_core.proofs.Systems.{seen}

pub user_code : IsCode user_bytes
user_code =
    let files = both_code devices_bytes files_bytes devices_code files_code in
    let front = both_code saved_parts_bytes (both devices_bytes files_bytes) saved_parts_code files in
    let back = both_code (each disk_bytes) (each number) (each_code disk_bytes disk_code) (each_code number number_code)
    in
    of_parts (both (both saved_parts_bytes (both devices_bytes files_bytes)) (both (each disk_bytes) (each number)))
    (both_code (both saved_parts_bytes (both devices_bytes files_bytes)) (both (each disk_bytes) (each number)) front
    back)
    (λ (u : SavedUser). ((u.machine, (u.devices, u.files)), (u.minidisks, u.keys)))
    (λ p. record {
      machine = p.0.0;
      devices = p.0.1.0;
      files = p.0.1.1;
      minidisks = p.1.0;
      keys = p.1.1;
    })
    (λ u. refl)

pub system_code : IsCode system_bytes
system_code =
    let front = both_code (each volume_bytes) (each user_bytes) (each_code volume_bytes volume_code)
    (each_code user_bytes user_code) in
    let noted = both_code (each note_bytes) flag (each_code note_bytes note_code) flag_code in
    let back = both_code pool_bytes (both (each note_bytes) flag) pool_code noted in
    of_parts (both (both (each volume_bytes) (each user_bytes)) (both pool_bytes (both (each note_bytes) flag)))
    (both_code (both (each volume_bytes) (each user_bytes)) (both pool_bytes (both (each note_bytes) flag)) front back)
    (λ (s : SavedSystem). ((s.volumes, s.users), (s.pool, (s.files, s.is_spent))))
    (λ p. record { volumes = p.0.0; users = p.0.1; pool = p.1.0; files = p.1.1.0; is_spent = p.1.1.1 })
    (λ s. refl)

-- A restored system is the saved one.
pub one_system : IsOneBySaved
one_system one other bytes directory is are =
    let same : are.parts ≡ is.parts = one_value system_bytes system_code are.parts is.parts (sym are.code ∙ is.code) in
    are.seen
    ∙ ap (λ (p : SavedSystem). view_of p other.directory other.kept) same
    ∙ ap (λ (d : List DirectoryUser). view_of is.parts d other.kept) directory
    ∙ ap (λ (s : SystemView). record s { kept = other.kept }) (sym is.seen)

-- ---- what is written

-- the code of what each becomes
pub each_mapped : {A B : Type 0} (code : B → List ℕ) (f : A → B) (list : List A)
    → each (λ a. code (f a)) list ≡ each code (map f list)
each_mapped code f [] = refl
each_mapped code f (a ∷ list) = ap (λ (l : List ℕ). 1 ∷ (code (f a) ++ l)) (each_mapped code f list)

-- a user's machine is as before, but for room on the console and the programs that are kept
users_again : (q : QueuesValue) (seats : List SeatParts) (volumes : List VolumeFormat) (storages : List (List ℕ))
    → users_of (map user_of (map (saved_user q) seats)) volumes storages ≡ users_of (seats_on q seats) volumes storages
users_again q [] volumes storages = refl
users_again q (s ∷ seats) volumes [] = refl
users_again q (s ∷ seats) volumes (bytes ∷ storages) =
    ap (λ (us : List Equipped). user_with (seat_on q s) volumes bytes ∷ us) (users_again q seats volumes storages)

placements_again : (q : QueuesValue) (seats : List SeatParts)
    → placements_among (map user_of (map (saved_user q) seats)) ≡ placements_among (seats_on q seats)
placements_again q [] = refl
placements_again q (s ∷ seats) =
    ap (λ (ss : List (List Placement)). placements_of s.minidisks ∷ ss) (placements_again q seats)

-- what is saved of a system
abbrev pub parts_in : QueuesValue → List SeatParts → List VolumeFormat → Pool → List FileNote → Bool → SavedSystem
parts_in q seats volumes pool files is_spent =
    record { volumes = volumes; users = map (saved_user q) seats; pool = pool; files = files; is_spent = is_spent }

module _ (q : QueuesValue) (seats : List SeatParts) (volumes : List VolumeFormat) (pool : Pool)
    (directory : List DirectoryUser) (files : List FileNote) (is_spent : Bool) where
  seen_again : (let s = seen (seats_on q seats) volumes pool.storages directory pool.supply files is_spent in s
      ≡ view_of (parts_in q seats volumes pool files is_spent) s.directory s.kept)
  seen_again =
      rw (users_again q seats volumes pool.storages, placements_again q seats) refl

  pub saved_is : (view : SystemView) (bytes : List ℕ)
      → seen (seats_on q seats) volumes pool.storages directory pool.supply files is_spent ≡ view
      → bytes ≡ system_bytes (parts_in q seats volumes pool files is_spent) → IsSaved view bytes
  saved_is view bytes is code = record {
    parts = parts_in q seats volumes pool files is_spent;
    seen = subst (λ (s : SystemView). s ≡ view_of (parts_in q seats volumes pool files is_spent) s.directory s.kept) is
        seen_again;
    code = code;
  }

  -- the same, of one of its users
  pub user_saved_is : (view : SystemView) (user : ℕ) (s : SeatParts) (bytes : List ℕ)
      → seen (seats_on q seats) volumes pool.storages directory pool.supply files is_spent ≡ view
      → user < length seats → s ≡ get_or seats user s → bytes ≡ user_part_bytes pool user (saved_user q s)
      → IsUserSaved view user bytes
  unfolding saved_is
  user_saved_is view user s bytes is within here code =
      let parts = parts_in q seats volumes pool files is_spent in
      let whole = saved_is view (system_bytes parts) is refl in
      let there = ap (option_map (saved_user q)) (there_at seats user s within here) in
      record {
        parts = parts;
        seen = whole.seen;
        saved = saved_user q s;
        is = slice_get-map (saved_user q) seats user ∙ there;
        code = code;
      }

-- what was appended part by part was appended as a whole
pub as_whole : (out v u p n f : List ℕ) → ((((out ++ v) ++ u) ++ p) ++ n) ++ f ≡ out ++ ((v ++ u) ++ (p ++ (n ++ f)))
as_whole out v u p n f =
    append_assoc (((out ++ v) ++ u) ++ p) n f
    ∙ append_assoc ((out ++ v) ++ u) p (n ++ f)
    ∙ ap (λ (l : List ℕ). l ++ (p ++ (n ++ f))) (append_assoc out v u)
    ∙ append_assoc out (v ++ u) (p ++ (n ++ f))
