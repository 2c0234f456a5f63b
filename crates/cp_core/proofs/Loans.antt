-- What is written to a lent frame, seen in the users of a system.
use Rattle.std.proofs.Common.{◌≡◌, Option, None, Some, ℕ, ◌*◌, ◌≤◌, Bool, true, false, nat_lt, List, [], ◌∷◌, length}
use Rattle.std.proofs.Common.{get_or, set, zero, suc, refl, ◌∙◌, ap, arith, sym}
use Rattle.std.specs.Prelude.{if◌then◌else◌, IfNone, IfSome}
use Rattle.std.proofs.lemmas.Bool.Decides.{nat_tests}
use Rattle.std.proofs.lemmas.List.{get_or_past, length-set}
use Rattle.std.proofs.lemmas.List.FromFn.{length-map-range_with_len}
use Rattle.cp_directory.specs.Users.{DirectoryUser}
use Rattle.cp_frames.specs.declared.numbers.UserPage.{UserPage}
use Rattle.cp_frames.specs.declared.numbers.FrameNo.{FrameNo}
use Rattle.cp_frames.specs.Layout.{IsZeroPage, Pool, bytes_of, number_of, put_page}
use Rattle.cp_frames.proofs.Layouts.{same_frame}
use Rattle.cp_frames.specs.Layout.{written_page as pool_page, written_frame as pool_frame}
use Rattle.cp_dat.specs.Supplied.{IsBetweenUnits}
use Rattle.machine_devices.specs.Equipped.{Equipped, nobody}
use Rattle.cp_core.specs.UserMachines.{UserParts, user_with, Fits}
use Rattle.cp_core.specs.System.{SystemView, users_of}
use Rattle.ckd_volume.specs.Volume.{VolumeFormat}
use Rattle.cp_core.proofs.Systems.{seen}
use Rattle.machine_devices.specs.declared.files.FileNote.{FileNote}
use Rattle.cp_core.specs.Loan.{frame_at, slot_at, with_page, written_page, written_frame}
use Rattle.cp_core.specs.Whole.{IsSystem, IsWhole, no_user}

-- a page that is written leaves the size of its storage
same_size : (bytes : List ℕ) (page : ℕ) (written : List ℕ) → length (put_page bytes page written) ≡ length bytes
same_size bytes page written = length-map-range_with_len _ 0 (length bytes)

-- where one storage is changed for another of its size, each is as long as it was
same_sizes : (storages : List (List ℕ)) (user k : ℕ) (bytes : List ℕ) → length bytes ≡ length (get_or storages user [])
    → length (get_or (set storages user bytes) k []) ≡ length (get_or storages k [])
same_sizes [] user k bytes e = refl
same_sizes (x ∷ xs) zero zero bytes e = e
same_sizes (x ∷ xs) zero (suc k) bytes e = refl
same_sizes (x ∷ xs) (suc user) zero bytes e = refl
same_sizes (x ∷ xs) (suc user) (suc k) bytes e = same_sizes xs user k bytes e

fits_same : (seat : UserParts) (old new : List ℕ) → length new ≡ length old → Fits seat old → Fits seat new
fits_same seat old new e f = record { large = omega (arith, e, f.large); keyed = omega (arith, e, f.keyed) }

whole_page : (seats : List UserParts) (pool : Pool) (users : List DirectoryUser) (o : Option UserPage)
    (written : List ℕ) → IsWhole seats pool.storages users → IsWhole seats (pool_page pool o written).storages users
whole_page seats pool users None written whole = whole
whole_page seats pool users (Some there) written whole =
    let user = there.user in
    let bytes = put_page (bytes_of pool user) there.page.0 written in
    record {
      seated = whole.seated;
      stored = length-set pool.storages user bytes ∙ whole.stored;
      few = whole.few;
      fits = λ k less. fits_same (get_or seats k no_user) (get_or pool.storages k [])
          (get_or (set pool.storages user bytes) k [])
          (same_sizes pool.storages user k bytes (same_size (bytes_of pool user) there.page.0 written))
          (whole.fits k less);
    }

between_page : (pool : Pool) (o : Option UserPage) (written : List ℕ) → IsBetweenUnits pool.supply
    → IsBetweenUnits (pool_page pool o written).supply
between_page pool None written rest = rest
between_page pool (Some there) written rest = rest

-- each user has a machine and a storage that fits it, whatever is written
whole_written : (seats : List UserParts) (pool : Pool) (users : List DirectoryUser) (frame : ℕ) (written : List ℕ)
    → IsWhole seats pool.storages users → IsWhole seats (pool_frame pool frame written).storages users
whole_written seats pool users frame written whole =
    whole_page seats pool users (get_or pool.supply.owners frame None) written whole

-- and between events nothing of the frames but bytes has changed
pub system_written : (seats : List UserParts) (volumes : List VolumeFormat) (pool : Pool) (users : List DirectoryUser)
    (frame : ℕ) (written : List ℕ) → IsSystem seats volumes pool users
    → IsSystem seats volumes (pool_frame pool frame written) users
system_written seats volumes pool users frame written system = record {
  whole = whole_written seats pool users frame written system.whole;
  disks = system.disks;
  there = system.there;
  between = between_page pool (get_or pool.supply.owners frame None) written system.between;
}

set_written : (seats : List UserParts) (volumes : List VolumeFormat) (storages : List (List ℕ)) (user page : ℕ)
    (written : List ℕ)
    → users_of seats volumes (set storages user (put_page (get_or storages user []) page written))
    ≡ set (users_of seats volumes storages) user
    (with_page (get_or (users_of seats volumes storages) user nobody) page written)
set_written [] volumes storages user page written = refl
set_written (seat ∷ seats) volumes [] zero page written = refl
set_written (seat ∷ seats) volumes [] (suc user) page written = refl
set_written (seat ∷ seats) volumes (bytes ∷ storages) zero page written = refl
set_written (seat ∷ seats) volumes (bytes ∷ storages) (suc user) page written =
    ap (λ (ms : List Equipped). user_with seat volumes bytes ∷ ms)
    (set_written seats volumes storages user page written)

-- a system as it is seen, by its frames
abbrev pub seen_with : List UserParts → List DirectoryUser → List FileNote → List VolumeFormat → Bool → Pool
    → SystemView
seen_with seats directory files volumes is_spent pool =
    seen seats volumes pool.storages directory pool.supply files is_spent

seen_page : (seats : List UserParts) (directory : List DirectoryUser) (files : List FileNote)
    (volumes : List VolumeFormat) (is_spent : Bool) (pool : Pool) (o : Option UserPage) (written : List ℕ)
    → seen_with seats directory files volumes is_spent (pool_page pool o written)
    ≡ written_page (seen_with seats directory files volumes is_spent pool) o written
seen_page seats directory files volumes is_spent pool None written = refl
seen_page seats directory files volumes is_spent pool (Some there) written =
    ap (λ (us : List Equipped). record (seen_with seats directory files volumes is_spent pool) { users = us })
    (set_written seats volumes pool.storages there.user there.page.0 written)

-- what is written to a frame of the pool is written to that frame of the system
pub seen_written : (seats : List UserParts) (directory : List DirectoryUser) (files : List FileNote)
    (volumes : List VolumeFormat) (is_spent : Bool) (pool : Pool) (frame : ℕ) (written : List ℕ)
    → seen_with seats directory files volumes is_spent (pool_frame pool frame written)
    ≡ written_frame (seen_with seats directory files volumes is_spent pool) frame written
seen_written seats directory files volumes is_spent pool frame written =
    seen_page seats directory files volumes is_spent pool (get_or pool.supply.owners frame None) written

-- ---- where a page is

-- past storage all is zero
pub past_zero : (bytes : List ℕ) (page : ℕ) → nat_lt (page * 4096) (length bytes) ≡ false → IsZeroPage bytes page
past_zero bytes page past address e =
    let above : length bytes ≤ page * 4096 =
    grind (arith, nat_tests) in get_or_past bytes address 0 (omega (arith, e, above))

-- a place that is reported is that of a page of storage
chosen : (b : Bool) (o : Option ℕ) (place : ℕ) → (if b then o else None) ≡ Some place → o ≡ Some place
chosen true o place e = e
chosen false o place e = cc

-- Inside the range what is there is reported.
pub told_inside : (b : Bool) (o : Option ℕ) → b ≡ true → (if b then o else None) ≡ o
told_inside true o e = refl
told_inside false o e = cc

-- Past the range nothing is reported.
pub told_past : (b : Bool) (o : Option ℕ) → b ≡ false → (if b then o else None) ≡ None
told_past true o e = cc
told_past false o e = refl

-- a frame has one page at most
pub frame_once : (s : SystemView) (user page : ℕ) (o : Option FrameNo) → number_of o ≡ frame_at s user page
    → IfSome o (λ frame. (other other_page : ℕ) → frame_at s other other_page ≡ Some frame.0
    → (other ≡ user) × (other_page ≡ page))
frame_once s user page None e = tt
frame_once s user page (Some frame) e =
    λ other other_page there.
    same_frame s.supply.owners other other_page user page frame.0 (chosen _ _ frame.0 there)
    (chosen _ _ frame.0 (sym e))

-- and a slot has
pub slot_once : (s : SystemView) (user page : ℕ) (o : Option ℕ) → o ≡ slot_at s user page
    → IfSome o (λ slot. (other other_page : ℕ) → slot_at s other other_page ≡ Some slot
    → (other ≡ user) × (other_page ≡ page))
slot_once s user page None e = tt
slot_once s user page (Some slot) e =
    λ other other_page there.
    same_frame s.supply.slots other other_page user page slot (chosen _ _ slot there) (chosen _ _ slot (sym e))

-- What follows holds where no value is there.
pub none_so : {X : Type 0} (o : Option X) (P Q : Type 0) → (P → Q) → IfNone o P → IfNone o Q
none_so None P Q f h = f h
none_so (Some x) P Q f h = tt
