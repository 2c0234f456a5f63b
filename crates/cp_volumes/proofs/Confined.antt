-- What changes on a volume when a minidisk on it changes.
use Rattle.std.specs.Prelude.{ℕ, zero, suc, ◌+◌, ◌-◌, ◌≡◌, ◌≤◌, ◌<◌, ◌⊎◌, refl, Bool, true, false, List, [], ◌∷◌, ◌++◌}
use Rattle.std.specs.Prelude.{length, take, drop, slice_index_or}
use Rattle.std.proofs.Common.{sym, ◌∙◌, ap, subst, inl, inr, arith, set, ◌==◌, get_or-set_same, get_or-set_other}
use Rattle.std.proofs.Common.{length-append, length-set}
use Rattle.std.proofs.lemmas.Bool.Decides.{nat_tests}
use Rattle.std.proofs.lemmas.List.{take-append-le, drop-append-le, length-drop}
use Rattle.std.proofs.Math.Seq.{drop-append-add}
use Rattle.ckd_volume.specs.Front.{Cylinder}
use Rattle.ckd_volume.specs.Volume.{VolumeFormat, slice_of}
use Rattle.cp_minidisk.specs.Extent.{ExtentValue}
use Rattle.cp_minidisk.specs.Minidisk.{HasExtent, slice, before, behind}
use Rattle.ckd_volume.specs.Unit.{volume_of}
use Rattle.cp_minidisk.specs.Minidisk.{MinidiskValue}
use Rattle.cp_minidisk.specs.Part.{Part, extent_of, minidisk_of, part_on, unit_of}
use Rattle.cp_minidisk.proofs.Slicing.{before_size, in_parts, slice_size}
use Rattle.cp_volumes.specs.Running.{KeepsVolume}
use Rattle.cp_volumes.specs.Shared.{AreApart, IsConfined, IsSeated, LeavesBe, SharedMinidisk, Placement, no_volume}
use Rattle.cp_volumes.specs.Shared.{placement_of, volume_at}

-- ---- parts of lists

-- what lies in the first part
in_first : (xs ys : List Cylinder) (start count : ℕ) → start + count ≤ length xs
    → slice_of (xs ++ ys) start count ≡ slice_of xs start count
in_first xs ys start count h =
    let inside : start ≤ length xs = omega arith in
    let left : count ≤ length (drop start xs) = omega (arith, length-drop start xs) in
    ap (take count) (drop-append-le start xs ys inside) ∙ take-append-le count (drop start xs) ys left

-- what lies in the second
in_second : (xs ys : List Cylinder) (start count : ℕ) → length xs ≤ start
    → slice_of (xs ++ ys) start count ≡ slice_of ys (start - length xs) count
in_second xs ys start count h =
    let at : length xs + (start - length xs) ≡ start = omega arith in
    ap (take count) (ap (λ (n : ℕ). drop n (xs ++ ys)) (sym at) ∙ drop-append-add xs ys (start - length xs))

-- a part apart from the middle stays when the middle changes
elsewhere : (below middle middle' above : List Cylinder) (start count : ℕ) → length middle' ≡ length middle
    → (start + count ≤ length below) ⊎ (length below + length middle ≤ start)
    → slice_of (below ++ (middle' ++ above)) start count ≡ slice_of (below ++ (middle ++ above)) start count
elsewhere below middle middle' above start count e (inl h) =
    in_first below (middle' ++ above) start count h ∙ sym (in_first below (middle ++ above) start count h)
elsewhere below middle middle' above start count e (inr h) =
    let b : length below ≤ start = omega arith in
    let k : ℕ = start - length below in
    let m : length middle ≤ k = omega arith in
    let m' : length middle' ≤ k = omega (arith, e) in
    let n : k - length middle' ≡ k - length middle = omega (arith, e) in
    in_second below (middle' ++ above) start count b ∙ in_second middle' above k count m' ∙ ap
    (λ (x : ℕ). slice_of above x count) n
    ∙ sym (in_second below (middle ++ above) start count b ∙ in_second middle above k count m)

-- ---- a volume of which an extent changes

-- all but the extent is as it was, and all where it is only read
pub record IsLeft (e : ExtentValue) (v w : VolumeFormat) : Type 0 where
  pub volser : w.volser ≡ v.volser
  pub below : List Cylinder
  pub middle : List Cylinder
  pub middle' : List Cylinder
  pub above : List Cylinder
  pub old : v.cylinders ≡ below ++ (middle ++ above)
  pub new : w.cylinders ≡ below ++ (middle' ++ above)
  pub starts : length below ≡ e.start
  pub size : length middle ≡ e.count
  pub size' : length middle' ≡ e.count
  pub read_only : e.writable ≡ false → w.cylinders ≡ v.cylinders

same_size : (e : ExtentValue) (v w : VolumeFormat) → IsLeft e v w → length w.cylinders ≡ length v.cylinders
same_size e v w h =
    omega (
      arith,
      ap length h.old,
      ap length h.new,
      length-append h.below (h.middle ++ h.above),
      length-append h.below (h.middle' ++ h.above),
      length-append h.middle h.above,
      length-append h.middle' h.above,
      h.size,
      h.size',
    )

slice_at : (f : ExtentValue) (v w : VolumeFormat) → w.volser ≡ v.volser
    → slice_of w.cylinders f.start f.count ≡ slice_of v.cylinders f.start f.count → slice w f ≡ slice v f
slice_at f v w a b = rw (a, b) refl

kept_slice : (e f : ExtentValue) (v w : VolumeFormat) (b : Bool) → e.writable ≡ b → IsLeft e v w
    → (e.writable ≡ true → AreApart e f) → slice w f ≡ slice v f
kept_slice e f v w false only h apart =
    slice_at f v w h.volser (ap (λ (cs : List Cylinder). slice_of cs f.start f.count) (h.read_only only))
kept_slice e f v w true may h apart =
    let where_is : (f.start + f.count ≤ length h.below) ⊎ (length h.below + length h.middle ≤ f.start) =
    elim (apart may) [ inl before ↦ inr (omega (arith, h.starts, h.size)) | inr after ↦ inl (omega (arith, h.starts)) ]
    in
    slice_at f v w h.volser
    (ap (λ (cs : List Cylinder). slice_of cs f.start f.count) h.new
    ∙ elsewhere h.below h.middle h.middle' h.above f.start f.count (h.size' ∙ sym h.size) where_is
    ∙ sym (ap (λ (cs : List Cylinder). slice_of cs f.start f.count) h.old))

-- ---- the volumes of which one changes

module _ (volumes : List VolumeFormat) (s : Placement) (w : VolumeFormat)
    (left : IsLeft s.extent (volume_at volumes s.volume) w) (inside : s.volume < length volumes) where
  by_index : {A : Type 0} (f : VolumeFormat → A) → f w ≡ f (volume_at volumes s.volume) → (index : ℕ) (b : Bool)
      → (s.volume == index) ≡ b → f (volume_at (set volumes s.volume w) index) ≡ f (volume_at volumes index)
  by_index f e index true t =
      let same : s.volume ≡ index = grind (arith, nat_tests) in
      subst (λ (n : ℕ). f (volume_at (set volumes s.volume w) n) ≡ f (volume_at volumes n)) same
      (ap f (get_or-set_same volumes s.volume w no_volume inside) ∙ e)
  by_index f e index false t =
      let other : index ≡ s.volume → ⊥ = grind (arith, nat_tests) in
      ap f (get_or-set_other volumes s.volume index w no_volume other)

  others_by : (t : Placement) (b : Bool) → (s.volume == t.volume) ≡ b → LeavesBe s t
      → slice (volume_at (set volumes s.volume w) t.volume) t.extent ≡ slice (volume_at volumes t.volume) t.extent
  others_by t true e be =
      let same : s.volume ≡ t.volume = grind (arith, nat_tests) in
      let here : slice w t.extent ≡ slice (volume_at volumes s.volume) t.extent =
      kept_slice s.extent t.extent (volume_at volumes s.volume) w s.extent.writable refl left (be same) in
      by_index (λ (v : VolumeFormat). slice v t.extent) here t.volume true e
  others_by t false e be =
      let other : t.volume ≡ s.volume → ⊥ = grind (arith, nat_tests) in
      ap (λ (v : VolumeFormat). slice v t.extent) (get_or-set_other volumes s.volume t.volume w no_volume other)

  pub confined_one : IsConfined (s ∷ []) volumes (set volumes s.volume w)
  confined_one = record {
    count = simp length-set;
    sizes = λ index. by_index (λ (v : VolumeFormat). length v.cylinders)
        (same_size s.extent (volume_at volumes s.volume) w left) index (s.volume == index) refl;
    volsers = λ index. by_index (λ (v : VolumeFormat). v.volser) left.volser index (s.volume == index) refl;
    others = λ t be. others_by t (s.volume == t.volume) refl (be 0 s refl);
  }

-- ---- a program on a minidisk

left_by : (v : VolumeFormat) (m : MinidiskValue) (q : Part) → HasExtent v.cylinders m.extent
    → KeepsVolume (part_on v m) q → IsLeft m.extent v (volume_of (unit_of q))
left_by v m q inside kept =
    let count : length q.disk.cylinders ≡ length (slice v m.extent).cylinders =
    ap (λ (e : ExtentValue). e.count) kept.extent in
    record {
      volser = kept.other_disks.volser;
      below = before v m.extent;
      middle = (slice v m.extent).cylinders;
      middle' = q.disk.cylinders;
      above = behind v m.extent;
      old = sym (in_parts v m.extent inside);
      new = rw (kept.other_disks.below, kept.other_disks.above) refl;
      starts = before_size v m.extent inside;
      size = slice_size v m.extent inside;
      size' = count ∙ slice_size v m.extent inside;
      read_only = λ only. kept.read_only (record { same = refl; protected = only; writes_nothing = refl }) ∙ in_parts v
          m.extent inside;
    }

set_twice : (xs : List VolumeFormat) (i : ℕ) (v w : VolumeFormat) → set (set xs i v) i w ≡ set xs i w
set_twice [] i v w = refl
set_twice (x ∷ xs) zero v w = refl
set_twice (x ∷ xs) (suc i) v w = ap (λ (ys : List VolumeFormat). x ∷ ys) (set_twice xs i v w)

-- A walk of one minidisk leaves all other extents of the volume as they are.
pub confined_by : (volumes away new : List VolumeFormat) (d : SharedMinidisk) (mounted q : Part)
    → IsSeated volumes (placement_of d) → d.volume < length volumes
    → mounted ≡ part_on (volume_at volumes d.volume) d.minidisk → KeepsVolume mounted q
    → away ≡ set volumes d.volume no_volume → new ≡ set away d.volume (volume_of (unit_of q))
    → IsConfined (placement_of d ∷ []) volumes new
confined_by volumes away new d mounted q seated inside is kept a b =
    let left : IsLeft d.minidisk.extent (volume_at volumes d.volume) (volume_of (unit_of q)) =
    left_by (volume_at volumes d.volume) d.minidisk q seated (subst (λ (p : Part). KeepsVolume p q) is kept) in
    let same : new ≡ set volumes d.volume (volume_of (unit_of q)) =
    b ∙ ap (λ (vs : List VolumeFormat). set vs d.volume (volume_of (unit_of q))) a ∙ set_twice volumes d.volume
    no_volume (volume_of (unit_of q)) in
    subst (λ (vs : List VolumeFormat). IsConfined (placement_of d ∷ []) volumes vs) (sym same)
    (confined_one volumes (placement_of d) (volume_of (unit_of q)) left inside)

-- ---- a program that did not run

set_back : (xs : List VolumeFormat) (i : ℕ) (v : VolumeFormat) → slice_index_or xs i no_volume ≡ v → i < length xs
    → set xs i v ≡ xs
set_back [] i v is inside = refl
set_back (x ∷ xs) zero v is inside = ap (λ (y : VolumeFormat). y ∷ xs) (sym is)
set_back (x ∷ xs) (suc i) v is inside =
    ap (λ (ys : List VolumeFormat). x ∷ ys) (set_back xs i v is (omega (arith, inside)))

-- what was mounted and is as it was leaves the volumes as they were
pub same_by : (volumes away new : List VolumeFormat) (d : SharedMinidisk) (mounted q : Part)
    → IsSeated volumes (placement_of d) → d.volume < length volumes
    → mounted ≡ part_on (volume_at volumes d.volume) d.minidisk → q ≡ mounted
    → away ≡ set volumes d.volume no_volume → new ≡ set away d.volume (volume_of (unit_of q)) → new ≡ volumes
same_by volumes away new d mounted q seated inside is kept a b =
    let v = volume_at volumes d.volume in
    let whole : volume_of (unit_of (part_on v d.minidisk)) ≡ v =
    ap (λ (cs : List Cylinder). record v { cylinders = cs }) (in_parts v d.minidisk.extent seated) in
    let there : volume_of (unit_of q) ≡ v = ap (λ (p : Part). volume_of (unit_of p)) (kept ∙ is) ∙ whole in
    b ∙ ap (λ (vs : List VolumeFormat). set vs d.volume (volume_of (unit_of q))) a ∙ set_twice volumes d.volume
    no_volume (volume_of (unit_of q)) ∙ set_back volumes d.volume (volume_of (unit_of q)) (sym there) inside

-- a minidisk is where it was
pub placements_by : (volumes : List VolumeFormat) (d new : SharedMinidisk) (mounted q : Part)
    → IsSeated volumes (placement_of d) → mounted ≡ part_on (volume_at volumes d.volume) d.minidisk
    → KeepsVolume mounted q
    → new ≡ record d { minidisk = minidisk_of q } → placement_of new ≡ placement_of d
placements_by volumes d new mounted q seated is kept new_is =
    let v = volume_at volumes d.volume in
    let own : extent_of (part_on v d.minidisk) ≡ d.minidisk.extent =
    rw (before_size v d.minidisk.extent seated, slice_size v d.minidisk.extent seated) refl in
    ap placement_of new_is ∙ ap (λ (e : ExtentValue). record { address = d.address; volume = d.volume; extent = e })
    (kept.extent ∙ ap (λ (p : Part). extent_of p) is ∙ own)
