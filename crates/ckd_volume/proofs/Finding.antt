-- Laws of looks for records.
use Rattle.std.specs.Prelude.{ℕ, ◌-◌, zero, suc, ◌+◌, ◌≡◌, ◌<◌, ◌≤◌, refl, Bool, true, false, List, [], ◌∷◌, length}
use Rattle.std.specs.Prelude.{drop, slice_index_or, Some, None}
use Rattle.std.proofs.Common.{sym, ◌∙◌, ap, arith}
use Rattle.std.proofs.lemmas.List.{drop_all}
use Rattle.ckd_track.specs.Track.{Record, no_record}
use Rattle.ckd_volume.specs.declared.parts.Found.TheVariants.{Lost}
use Rattle.ckd_volume.specs.Front.{Cylinder, records_at}
use Rattle.ckd_volume.specs.Orientation.{first_of, first_from, switched, bars_switch, or_else}

-- a record that is not looked for is passed
pub skip : (w : Record → Bool) (rs : List Record) (i k : ℕ) → i < length rs → w (slice_index_or rs i no_record) ≡ false
    → first_of w k (drop i rs) ≡ first_of w (k + 1) (drop (i + 1) rs)
skip w [] i k lt fails = absurd (omega arith)
skip w (r ∷ rs) zero k lt fails = rw fails refl
skip w (r ∷ rs) (suc i) k lt fails =
    let less : i < length rs = omega arith in
    let next : suc i + 1 ≡ suc (i + 1) = omega arith in
    skip w rs i k less fails ∙ ap (λ n. first_of w (k + 1) (drop n (r ∷ rs))) (sym next)

-- one that is looked for is found
pub hit : (w : Record → Bool) (rs : List Record) (i k : ℕ) → i < length rs → w (slice_index_or rs i no_record) ≡ true
    → first_of w k (drop i rs) ≡ Some k
hit w [] i k lt holds = absurd (omega arith)
hit w (r ∷ rs) zero k lt holds = rw holds refl
hit w (r ∷ rs) (suc i) k lt holds = let less : i < length rs = omega arith in hit w rs i k less holds

-- past the last record there is none
pub past : (w : Record → Bool) (rs : List Record) (i : ℕ) → length rs ≤ i → first_from w rs i ≡ None
past w rs i le = ap (first_of w i) (drop_all i rs le)

pub switched_barred : (w : Record → Bool) (c : Cylinder) (mask head more : ℕ) → bars_switch mask ≡ true
    → switched w c mask head more ≡ Lost head 4
switched_barred w c mask head zero e = rw e refl
switched_barred w c mask head (suc more) e = rw e refl

-- A search past the last head, without leave to switch heads, ends with end of cylinder.
pub switched_last : (w : Record → Bool) (c : Cylinder) (mask head : ℕ) → bars_switch mask ≡ false
    → switched w c mask head 0 ≡ Lost head 32
switched_last w c mask head e = rw e refl

-- A search goes on at the next head while there is one.
pub switched_on : (w : Record → Bool) (c : Cylinder) (mask head more : ℕ) → bars_switch mask ≡ false → 0 < more
    → switched w c mask head more ≡ or_else (first_from w (records_at c (head + 1)) 0) (head + 1)
    (switched w c mask (head + 1) (more - 1))
switched_on w c mask head zero e lt = absurd (omega arith)
switched_on w c mask head (suc more) e lt =
    let less : suc more - 1 ≡ more = omega arith in
    rw (e, less) refl
