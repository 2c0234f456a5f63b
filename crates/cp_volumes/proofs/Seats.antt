-- The minidisks of a user: what each is, and how one changes with its volume.
use Rattle.std.specs.Prelude.{ℕ, zero, suc, ◌≡◌, ◌==◌, ◌<◌, refl, Bool, true, false, if◌then◌else◌, List, [], ◌∷◌, ◌++◌}
use Rattle.std.specs.Prelude.{length, map, slice_get, Option, Some}
use Rattle.std.specs.List.{find, position, position_or_len}
use Rattle.std.specs.Option.{option_map}
use Rattle.std.proofs.Common.{sym, ◌∙◌, ap, subst, set, get_or, arith}
use Rattle.std.proofs.lemmas.List.{length-map}
use Rattle.std.proofs.lemmas.Option.{slice_get-map}
use Rattle.std.proofs.Math.Seq.{map-set_same}
use Rattle.ckd_volume.specs.Volume.{VolumeFormat}
use Rattle.s370_walk.specs.declared.parts.Ending.{Ending}
use Rattle.s370_store.specs.Memory.{Memory}
use Rattle.s370_channel.specs.declared.words.Caw.{Caw}
use Rattle.s370_channel.specs.Reading.{Reading}
use Rattle.machine_channels.specs.Channels.{LoadsAt, LoadsDisk, RestsAfter, RestsLoaded, WalksAt, WalksDisk}
use Rattle.machine_channels.specs.Disks.{DiskAt, cleared_disk, is_disk_at, reset_disk}
use Rattle.cp_minidisk.specs.Minidisk.{slice}
use Rattle.ckd_volume.specs.Unit.{idle}
use Rattle.cp_minidisk.specs.Minidisk.{own_arm}
use Rattle.cp_volumes.specs.Keeping.{confined_same}
use Rattle.cp_volumes.specs.Shared.{AllLeaveBe, AreThere, DisksValue, IsConfined, IsSeated, IsUsers, KeepsOtherDisks}
use Rattle.cp_volumes.specs.Shared.{LeavesBe, SharedMinidisk, Placement, cleared_minidisk, disk_on, disks_on}
use Rattle.cp_volumes.specs.Shared.{reset_minidisk, seen, placement_of, placements_of, volume_at}

-- ---- found by its address

place-map : (device : ℕ) (volumes : List VolumeFormat) (ds : List SharedMinidisk)
    → position_or_len (λ (d : SharedMinidisk). d.address == device) ds
    ≡ position_or_len (is_disk_at device) (disks_on volumes ds)
place-map device volumes [] = refl
place-map device volumes (d ∷ ds) = rw (place-map device volumes ds) refl

found : (device : ℕ) (volumes : List VolumeFormat) (ds : List SharedMinidisk)
    → position (λ (d : SharedMinidisk). d.address == device) ds ≡ position (is_disk_at device) (disks_on volumes ds)
found device volumes ds = rw (place-map device volumes ds, length-map ds (disk_on volumes)) refl

-- A minidisk is found by its address where the user sees it.
pub found_at : (device : ℕ) (d : DisksValue)
    → position (λ (m : SharedMinidisk). m.address == device) d.minidisks ≡ position (is_disk_at device) (seen d)
found_at device d = found device d.volumes d.minidisks

-- the same, as one disk
found_where : (device : ℕ) (volumes : List VolumeFormat) (d : SharedMinidisk) (ds : List SharedMinidisk) (b : Bool)
    → option_map (λ (x : DiskAt). x.unit) (find (is_disk_at device) (disks_on volumes ds))
    ≡ option_map (λ (m : SharedMinidisk). (disk_on volumes m).unit)
    (find (λ (m : SharedMinidisk). m.address == device) ds)
    → option_map (λ (x : DiskAt). x.unit)
    (if b then Some (disk_on volumes d) else find (is_disk_at device) (disks_on volumes ds))
    ≡ option_map (λ (m : SharedMinidisk). (disk_on volumes m).unit)
    (if b then Some d else find (λ (m : SharedMinidisk). m.address == device) ds)
found_where device volumes d ds true rest = refl
found_where device volumes d ds false rest = rest

-- The unit at an address is that of the minidisk there.
pub unit_found : (device : ℕ) (volumes : List VolumeFormat) (ds : List SharedMinidisk)
    → option_map (λ (x : DiskAt). x.unit) (find (is_disk_at device) (disks_on volumes ds))
    ≡ option_map (λ (m : SharedMinidisk). (disk_on volumes m).unit)
    (find (λ (m : SharedMinidisk). m.address == device) ds)
unit_found device volumes [] = refl
unit_found device volumes (d ∷ ds) =
    found_where device volumes d ds (d.address == device) (unit_found device volumes ds)

-- A user sees as many disks as he has minidisks.
pub as_many : (d : DisksValue) → length (seen d) ≡ length d.minidisks
as_many d = length-map d.minidisks (disk_on d.volumes)

-- ---- nothing changes but arms and senses

-- Resetting minidisks resets the disks that the user sees.
pub reset_seen : (volumes : List VolumeFormat) (ds : List SharedMinidisk)
    → disks_on volumes (map reset_minidisk ds) ≡ map reset_disk (disks_on volumes ds)
reset_seen volumes [] = refl
reset_seen volumes (d ∷ ds) = ap (λ (xs : List DiskAt). reset_disk (disk_on volumes d) ∷ xs) (reset_seen volumes ds)

-- Clearing minidisks clears the disks that the user sees.
pub cleared_seen : (volumes : List VolumeFormat) (ds : List SharedMinidisk)
    → disks_on volumes (map cleared_minidisk ds) ≡ map cleared_disk (disks_on volumes ds)
cleared_seen volumes [] = refl
cleared_seen volumes (d ∷ ds) =
    ap (λ (xs : List DiskAt). cleared_disk (disk_on volumes d) ∷ xs) (cleared_seen volumes ds)

-- Resetting minidisks leaves them where they are.
pub reset_placements : (ds : List SharedMinidisk) → placements_of (map reset_minidisk ds) ≡ placements_of ds
reset_placements [] = refl
reset_placements (d ∷ ds) = ap (λ (xs : List Placement). placement_of d ∷ xs) (reset_placements ds)

-- Clearing minidisks leaves them where they are.
pub cleared_placements : (ds : List SharedMinidisk) → placements_of (map cleared_minidisk ds) ≡ placements_of ds
cleared_placements [] = refl
cleared_placements (d ∷ ds) = ap (λ (xs : List Placement). placement_of d ∷ xs) (cleared_placements ds)

-- Minidisks at the same places keep the other disks as they are.
pub neighbours_still : (volumes : List VolumeFormat) (ds es : List SharedMinidisk) → placements_of es ≡ placements_of ds
    → KeepsOtherDisks (record { volumes = volumes; minidisks = ds }) (record { volumes = volumes; minidisks = es })
neighbours_still volumes ds es same = record { placements = same; confined = confined_same (placements_of ds) volumes }

-- ---- many stay

-- The place of a minidisk is found at its index.
pub placement_at : (ds : List SharedMinidisk) (j : ℕ) (e : SharedMinidisk) → slice_get ds j ≡ Some e
    → slice_get (placements_of ds) j ≡ Some (placement_of e)
placement_at ds j e at = slice_get-map placement_of ds j ∙ ap (option_map placement_of) at

pub disk_stays : (volumes volumes' : List VolumeFormat) (e : SharedMinidisk)
    → slice (volume_at volumes' e.volume) e.minidisk.extent ≡ slice (volume_at volumes e.volume) e.minidisk.extent
    → disk_on volumes' e ≡ disk_on volumes e
disk_stays volumes volumes' e same =
    ap (λ (v : VolumeFormat). record { address = e.address; unit = idle v (own_arm e.minidisk) }) same

-- Disks whose cylinders stay are seen as before.
pub disks_stay : (volumes volumes' : List VolumeFormat) (xs : List SharedMinidisk)
    → ((j : ℕ) (e : SharedMinidisk) → slice_get xs j ≡ Some e
    → slice (volume_at volumes' e.volume) e.minidisk.extent ≡ slice (volume_at volumes e.volume) e.minidisk.extent)
    → disks_on volumes' xs ≡ disks_on volumes xs
disks_stay volumes volumes' [] h = refl
disks_stay volumes volumes' (x ∷ xs) h =
    let first : disk_on volumes' x ≡ disk_on volumes x = disk_stays volumes volumes' x (h 0 x refl) in
    let others : disks_on volumes' xs ≡ disks_on volumes xs =
    disks_stay volumes volumes' xs (λ j e at. h (suc j) e at) in
    rw (first, others) refl

-- a user's minidisks are on volumes that are as large
pub users_on : (volumes volumes' : List VolumeFormat) (placements : List Placement)
    → ((index : ℕ) → length (volume_at volumes' index).cylinders ≡ length (volume_at volumes index).cylinders)
    → IsUsers volumes placements → IsUsers volumes' placements
users_on volumes volumes' placements sizes users = record {
  seated = λ i s at. (let was = users.seated i s at in omega (arith, sizes s.volume));
  apart = users.apart;
}

-- A minidisk of users is in its place on its volume.
pub seated_at : (volumes : List VolumeFormat) (ds : List SharedMinidisk) (index : ℕ) (d : SharedMinidisk)
    → IsUsers volumes (placements_of ds) → slice_get ds index ≡ Some d → IsSeated volumes (placement_of d)
seated_at volumes ds index d users is = users.seated index (placement_of d) (placement_at ds index d is)

-- a minidisk as its user sees it
pub seen_at : (volumes : List VolumeFormat) (ds : List SharedMinidisk) (index : ℕ) (d : SharedMinidisk)
    → slice_get ds index ≡ Some d → slice_get (disks_on volumes ds) index ≡ Some (disk_on volumes d)
seen_at volumes ds index d is = slice_get-map (disk_on volumes) ds index ∙ ap (option_map (disk_on volumes)) is

-- ---- all are reset

-- A minidisk that was reset is found at its index.
pub reset_at : (ds : List SharedMinidisk) (index : ℕ) (d : SharedMinidisk) → slice_get ds index ≡ Some d
    → slice_get (map reset_minidisk ds) index ≡ Some (reset_minidisk d)
reset_at ds index d is = slice_get-map reset_minidisk ds index ∙ ap (option_map reset_minidisk) is

-- A disk that was reset is seen at its index.
pub reset_seen_at : (volumes : List VolumeFormat) (ds : List SharedMinidisk) (index : ℕ) (d : SharedMinidisk)
    → slice_get ds index ≡ Some d
    → slice_get (map reset_disk (disks_on volumes ds)) index ≡ Some (disk_on volumes (reset_minidisk d))
reset_seen_at volumes ds index d is =
    slice_get-map reset_disk (disks_on volumes ds) index ∙ ap (option_map reset_disk) (seen_at volumes ds index d is)

-- Minidisks of users are in their places after a reset.
pub users_reset : (volumes : List VolumeFormat) (ds : List SharedMinidisk) → IsUsers volumes (placements_of ds)
    → IsUsers volumes (placements_of (map reset_minidisk ds))
users_reset volumes ds users = subst (λ (s : List Placement). IsUsers volumes s) (sym (reset_placements ds)) users

-- What keeps other disks after a reset keeps them before it.
pub kept_reset : (volumes : List VolumeFormat) (ds : List SharedMinidisk) (new : DisksValue)
    → KeepsOtherDisks (record { volumes = volumes; minidisks = map reset_minidisk ds }) new
    → KeepsOtherDisks (record { volumes = volumes; minidisks = ds }) new
kept_reset volumes ds new kept = record {
  placements = kept.placements ∙ reset_placements ds;
  confined = subst (λ (s : List Placement). IsConfined s volumes new.volumes) (reset_placements ds) kept.confined;
}

-- ---- one minidisk and its volume change

module _ (volumes volumes' : List VolumeFormat) (ds : List SharedMinidisk) (index : ℕ) (d d' : SharedMinidisk)
    (users : IsUsers volumes (placements_of ds)) (is : slice_get ds index ≡ Some d)
    (placement : placement_of d' ≡ placement_of d) (confined : IsConfined (placement_of d ∷ []) volumes volumes') where
  only : (t : Placement) → LeavesBe (placement_of d) t → AllLeaveBe (placement_of d ∷ []) t
  only t be zero s e = let P : Placement → Type 0 = λ x. LeavesBe x t in subst P (by_some e) be
    where
      by_some : Some (placement_of d) ≡ Some s → placement_of d ≡ s
      by_some e = cc
  only t be (suc i) s e = cc

  -- another one sees its own disk as it was
  other : (j : ℕ) (e : SharedMinidisk) → slice_get ds j ≡ Some e → (j ≡ index → ⊥)
      → disk_on volumes' e ≡ disk_on volumes e
  other j e at differs =
      let be : LeavesBe (placement_of d) (placement_of e) =
      users.apart index j (placement_of d) (placement_of e) (placement_at ds index d is) (placement_at ds j e at)
      (λ same. differs (sym same)) in
      disk_stays volumes volumes' e (confined.others (placement_of e) (only (placement_of e) be))

  pub placements_kept : placements_of (set ds index d') ≡ placements_of ds
  placements_kept = map-set_same placement_of ds index d' d (placement ∙ sym (ap placement_of (at_index ds index is)))
    where
      at_index : (xs : List SharedMinidisk) (i : ℕ) → slice_get xs i ≡ Some d → get_or xs i d ≡ d
      at_index [] i e = refl
      at_index (x ∷ xs) zero e = cc
      at_index (x ∷ xs) (suc i) e = at_index xs i e

  all_stay : (xs : List SharedMinidisk)
      → ((j : ℕ) (e : SharedMinidisk) → slice_get xs j ≡ Some e → disk_on volumes' e ≡ disk_on volumes e)
      → disks_on volumes' xs ≡ disks_on volumes xs
  all_stay [] h = refl
  all_stay (x ∷ xs) h =
      let first : disk_on volumes' x ≡ disk_on volumes x = h 0 x refl in
      let others : disks_on volumes' xs ≡ disks_on volumes xs = all_stay xs (λ j e at. h (suc j) e at) in
      rw (first, others) refl

  but_one : (xs : List SharedMinidisk) (i : ℕ)
      → ((j : ℕ) (e : SharedMinidisk) → slice_get xs j ≡ Some e → (j ≡ i → ⊥) → disk_on volumes' e ≡ disk_on volumes e)
      → disks_on volumes' (set xs i d') ≡ set (disks_on volumes xs) i (disk_on volumes' d')
  but_one [] i h = refl
  but_one (x ∷ xs) zero h =
      ap (λ (ys : List DiskAt). disk_on volumes' d' ∷ ys) (all_stay xs (λ j e at. h (suc j) e at (λ same. grind arith)))
  but_one (x ∷ xs) (suc i) h =
      let first : disk_on volumes' x ≡ disk_on volumes x = h 0 x refl (λ same. grind arith) in
      let others : disks_on volumes' (set xs i d') ≡ set (disks_on volumes xs) i (disk_on volumes' d') =
      but_one xs i (λ j e at differs. h (suc j) e at (λ same. differs (grind arith))) in
      rw (first, others) refl

  pub seen_one : disks_on volumes' (set ds index d') ≡ set (disks_on volumes ds) index (disk_on volumes' d')
  seen_one = but_one ds index other

  pub kept_one : KeepsOtherDisks (record { volumes = volumes; minidisks = ds })
      (record { volumes = volumes'; minidisks = set ds index d' })
  kept_one = record {
    placements = placements_kept;
    confined = record {
      count = confined.count;
      sizes = confined.sizes;
      volsers = confined.volsers;
      others = λ t be. confined.others t (only t (be index (placement_of d) (placement_at ds index d is)));
    };
  }

  pub users_kept : IsUsers volumes' (placements_of (set ds index d'))
  users_kept = rw placements_kept (users_on volumes volumes' (placements_of ds) confined.sizes users)

  disk_seen : slice_get (disks_on volumes ds) index ≡ Some (disk_on volumes d)
  disk_seen = slice_get-map (disk_on volumes) ds index ∙ ap (option_map (disk_on volumes)) is

  pub walks : (reads : Reading) (start : Caw) (m n : Memory) (end : Ending)
      → RestsAfter reads start m (disk_on volumes d) end n (disk_on volumes' d')
      → WalksDisk reads start m (disks_on volumes ds) index end n (disks_on volumes' (set ds index d'))
  walks reads start m n end r =
      subst (λ (o : Option DiskAt).
      WalksAt reads start m (disks_on volumes ds) index o end n (disks_on volumes' (set ds index d')))
      (sym disk_seen)
      (record { left = disk_on volumes' d'; one = r; rest = seen_one })

  pub loads : (m n : Memory) (end : Ending) → RestsLoaded m (disk_on volumes d) end n (disk_on volumes' d')
      → LoadsDisk m (disks_on volumes ds) index end n (disks_on volumes' (set ds index d'))
  loads m n end r =
      subst (λ (o : Option DiskAt). LoadsAt m (disks_on volumes ds) index o end n (disks_on volumes' (set ds index d')))
      (sym disk_seen)
      (record { left = disk_on volumes' d'; one = r; rest = seen_one })

-- ---- all of them are there

-- One more volume with cylinders makes all volumes there.
pub there_more : (volumes : List VolumeFormat) (v : VolumeFormat) → AreThere volumes → 0 < length v.cylinders
    → AreThere (volumes ++ v ∷ [])
there_more [] v there some zero lt = some
there_more [] v there some (suc index) lt = absurd (omega (arith, lt))
there_more (first ∷ volumes) v there some zero lt = there 0 (omega arith)
there_more (first ∷ volumes) v there some (suc index) lt =
    there_more volumes v (λ i inside. there (suc i) (omega (arith, inside))) some index (omega (arith, lt))
