-- Laws of blank cylinders and volumes.
use Rattle.std.specs.Prelude.{ℕ, ◌-◌, zero, suc, ◌+◌, ◌≡◌, ◌<◌, refl, List, [], ◌∷◌, ◌++◌}
use Rattle.std.proofs.Common.{sym, ◌∙◌, ap, arith, append_assoc}
use Rattle.ckd_track.specs.Track.{TrackFormat}
use Rattle.ckd_volume.specs.Front.{Cylinder}
use Rattle.ckd_volume.specs.Volume.{blank_tracks, blank_cylinders, home_of}

tracks_by : (c h more : ℕ) → 0 < more → blank_tracks c h more ≡
    (record { home = home_of c h; records = [] }) ∷ blank_tracks c (h + 1) (more - 1)
tracks_by c h zero lt = absurd (omega arith)
tracks_by c h (suc more) lt = let e : suc more - 1 ≡ more = omega arith in rw e refl

-- one more blank track
pub tracks_on : (c h : ℕ) (done : List TrackFormat) → h < 19
    → (done ++ (record { home = home_of c h; records = [] }) ∷ []) ++ blank_tracks c (h + 1)
    (19 - (h + 1)) ≡ done ++ blank_tracks c h (19 - h)
tracks_on c h done lt =
    let e : 19 - h - 1 ≡ 19 - (h + 1) = omega arith in
    append_assoc done ((record { home = home_of c h; records = [] }) ∷ []) (blank_tracks c (h + 1) (19 - (h + 1)))
    ∙ ap (λ n. done ++ ((record { home = home_of c h; records = [] }) ∷ blank_tracks c (h + 1) n)) (sym e)
    ∙ ap (λ l. done ++ l) (sym (tracks_by c h (19 - h) (omega arith)))

cylinders_by : (c more : ℕ) → 0 < more → blank_cylinders c more ≡ blank_tracks c 0 19 ∷ blank_cylinders (c + 1)
    (more - 1)
cylinders_by c zero lt = absurd (omega arith)
cylinders_by c (suc more) lt = let e : suc more - 1 ≡ more = omega arith in rw e refl

-- one more blank cylinder
pub cylinders_on : (c total : ℕ) (done : List Cylinder) → c < total
    → (done ++ blank_tracks c 0 19 ∷ []) ++ blank_cylinders (c + 1) (total - (c + 1)) ≡ done ++ blank_cylinders c
    (total - c)
cylinders_on c total done lt =
    let e : total - c - 1 ≡ total - (c + 1) = omega arith in
    append_assoc done (blank_tracks c 0 19 ∷ []) (blank_cylinders (c + 1) (total - (c + 1)))
    ∙ ap (λ n. done ++ (blank_tracks c 0 19 ∷ blank_cylinders (c + 1) n)) (sym e)
    ∙ ap (λ l. done ++ l) (sym (cylinders_by c (total - c) (omega arith)))
