-- Parts of a volume.
use Rattle.std.specs.Prelude.{◌+◌, ◌-◌, ◌<◌, ◌≡◌, List, ◌++◌, length, take, drop}
use Rattle.std.proofs.Common.{sym, ◌∙◌, ap, arith}
use Rattle.std.proofs.lemmas.List.{drop-drop, take-append-drop, length-take-le, length-drop}
use Rattle.std.proofs.Math.Seq.{drop-append_seam, take-append_seam, drop-append-add}
use Rattle.ckd_volume.specs.Front.{Cylinder}
use Rattle.ckd_volume.specs.Volume.{VolumeFormat, slice_of}
use Rattle.ckd_volume.specs.Unit.{Disk, volume_of}
use Rattle.cp_minidisk.specs.Extent.{ExtentValue, IsWithin}
use Rattle.cp_minidisk.specs.Placed.{placed, IsOnDisk}
use Rattle.cp_minidisk.specs.Minidisk.{HasExtent, slice, before, behind}

-- A volume is what is before an extent, the extent and what is after it.
pub in_parts : (v : VolumeFormat) (e : ExtentValue) → HasExtent v.cylinders e
    → before v e ++ ((slice v e).cylinders ++ behind v e) ≡ v.cylinders
in_parts v e inside =
    ap (λ l. before v e ++ ((slice v e).cylinders ++ l)) (sym (drop-drop e.count e.start v.cylinders))
    ∙ ap (λ l. before v e ++ l) (take-append-drop e.count (drop e.start v.cylinders))
    ∙ take-append-drop e.start v.cylinders

has_slice : (before behind cylinders : List Cylinder) → slice_of (before ++ (cylinders ++ behind)) (length before)
    (length cylinders) ≡ cylinders
has_slice before behind cylinders =
    ap (take (length cylinders)) (drop-append_seam before (cylinders ++ behind)) ∙ take-append_seam cylinders behind

-- As many cylinders are before an extent as its start says.
pub before_size : (v : VolumeFormat) (e : ExtentValue) → HasExtent v.cylinders e → length (before v e) ≡ e.start
before_size v e inside = length-take-le e.start v.cylinders (omega (arith, inside))

-- An extent has as many cylinders as its count says.
pub slice_size : (v : VolumeFormat) (e : ExtentValue) → HasExtent v.cylinders e → length (slice v e).cylinders ≡ e.count
slice_size v e inside =
    let rest : length (drop e.start v.cylinders) ≡ length v.cylinders - e.start = length-drop e.start v.cylinders in
    length-take-le e.count (drop e.start v.cylinders) (omega (arith, inside, rest))

-- the minidisk that is there
abbrev pub Fits : ExtentValue → Disk → Type 0
Fits extent d = IsOnDisk d × (length d.cylinders ≡ extent.count)

module _ (extent : ExtentValue) (below above : List Cylinder) (d : Disk) (starts : length below ≡ extent.start)
    (fits : Fits extent d) where
  pub part : slice_of (below ++ (d.cylinders ++ above)) extent.start extent.count ≡ d.cylinders
  part =
      ap (λ n. slice_of (below ++ (d.cylinders ++ above)) n extent.count) (sym starts)
      ∙ ap (λ n. slice_of (below ++ (d.cylinders ++ above)) (length below) n) (sym fits.1)
      ∙ has_slice below above d.cylinders

  pub is_within : IsWithin extent (placed below above d).cylinder
  is_within =
      let low : d.cylinder < length d.cylinders = fits.0.cylinder in
      (omega (arith, starts), omega (arith, starts, low, fits.1))

  pub same_before : before (volume_of (placed below above d)) extent ≡ below
  same_before = ap (λ n. take n (below ++ (d.cylinders ++ above))) (sym starts)
      ∙ take-append_seam below (d.cylinders ++ above)

  pub same_behind : behind (volume_of (placed below above d)) extent ≡ above
  same_behind =
      ap (λ n. drop (n + extent.count) (below ++ (d.cylinders ++ above))) (sym starts)
      ∙ drop-append-add below (d.cylinders ++ above) extent.count
      ∙ ap (λ n. drop n (d.cylinders ++ above)) (sym fits.1)
      ∙ drop-append_seam d.cylinders above
