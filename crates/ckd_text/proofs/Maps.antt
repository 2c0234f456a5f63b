-- Laws of maps, part by part: one part more.
use Rattle.std.specs.Prelude.{ℕ, zero, suc, ◌+◌, ◌≡◌, ◌<◌, refl, if◌then◌else◌, List, [], ◌∷◌, ◌++◌, length, drop}
use Rattle.std.specs.Prelude.{slice_index_or}
use Rattle.std.proofs.Common.{sym, ◌∙◌, ap, arith, append_assoc, subst}
use Rattle.ckd_track.specs.Track.{Record, no_record, cost, cost_of}
use Rattle.ckd_volume.specs.Front.{Cylinder, no_track}
use Rattle.ckd_text.specs.Map.{record_line, record_lines, track_lines, is_blank, cylinder_lines, volume_lines}
use Rattle.ckd_text.specs.Map.{blank_heads, blank_count}

-- a count that begins at zero
at_zero : (P : ℕ → ℕ → Type 0) (i : ℕ) → P (0 + i) (0 + (i + 1)) → P i (i + 1)
at_zero P i h =
    let this : 0 + i ≡ i = omega arith in
    let next : 0 + (i + 1) ≡ i + 1 = omega arith in
    subst (λ n. P i n) next (subst (λ n. P n (0 + (i + 1))) this h)

records_drop : (rs : List Record) (i : ℕ) → i < length rs → record_lines (drop i rs) ≡ record_line
    (slice_index_or rs i no_record) ++ record_lines (drop (i + 1) rs)
records_drop [] i lt = absurd (omega arith)
records_drop (r ∷ rs) zero lt = refl
records_drop (r ∷ rs) (suc i) lt = let less : i < length rs = omega arith in
    let e : suc i + 1 ≡ suc (i + 1) = omega arith in records_drop rs i less
    ∙ ap (λ n. record_line (slice_index_or rs i no_record) ++ record_lines (drop n (r ∷ rs))) (sym e)

-- The lines of records from one on begin with that record's.
pub records_on : (out : List ℕ) (rs : List Record) (i : ℕ) → i < length rs
    → (out ++ record_line (slice_index_or rs i no_record)) ++ record_lines (drop (i + 1) rs) ≡ out ++ record_lines
    (drop i rs)
records_on out rs i lt = append_assoc out (record_line (slice_index_or rs i no_record)) (record_lines (drop (i + 1) rs))
    ∙ ap (λ l. out ++ l) (sym (records_drop rs i lt))

-- The cost of records from one on is that record's and that of the rest.
pub cost_on : (rs : List Record) (i : ℕ) → i < length rs → cost (drop i rs) ≡ cost_of
    (slice_index_or rs i no_record) + cost (drop (i + 1) rs)
cost_on [] i lt = absurd (omega arith)
cost_on (r ∷ rs) zero lt = refl
cost_on (r ∷ rs) (suc i) lt = let less : i < length rs = omega arith in let e : suc i + 1 ≡ suc (i + 1) = omega arith in
    cost_on rs i less ∙ ap (λ n. cost_of (slice_index_or rs i no_record) + cost (drop n (r ∷ rs))) (sym e)

tracks_drop : (c h : ℕ) (ts : Cylinder) (i : ℕ) → i < length ts
    → cylinder_lines c (h + i) (drop i ts) ≡ track_lines c (h + i) (slice_index_or ts i no_track) ++ cylinder_lines c
    (h + (i + 1)) (drop (i + 1) ts)
tracks_drop c h [] i lt = absurd (omega arith)
tracks_drop c h (t ∷ ts) zero lt = let e : h + 0 + 1 ≡ h + (0 + 1) = omega arith in
    ap (λ n. track_lines c (h + 0) t ++ cylinder_lines c n ts) e
tracks_drop c h (t ∷ ts) (suc i) lt =
    let less : i < length ts = omega arith in
    let e : h + suc i ≡ (h + 1) + i = omega arith in
    let f : (h + 1) + (i + 1) ≡ h + (suc i + 1) = omega arith in
    let g : i + 1 + 1 ≡ suc i + 1 = omega arith in
    let s : suc i + 1 ≡ suc (i + 1) = omega arith in
    ap (λ n. cylinder_lines c n (drop i ts)) e
    ∙ tracks_drop c (h + 1) ts i less
    ∙ ap (λ n. track_lines c n (slice_index_or ts i no_track) ++ cylinder_lines c ((h + 1) + (i + 1)) (drop (i + 1) ts))
    (sym e)
    ∙ ap (λ n. track_lines c (h + suc i) (slice_index_or ts i no_track) ++ cylinder_lines c n (drop (i + 1) ts)) f
    ∙ ap (λ n. track_lines c (h + suc i) (slice_index_or ts i no_track) ++ cylinder_lines c (h + (suc i + 1))
    (drop n (t ∷ ts))) (sym s)

-- The lines of tracks from one on begin with that track's.
pub tracks_on : (out : List ℕ) (c : ℕ) (ts : Cylinder) (i : ℕ) → i < length ts
    → (out ++ track_lines c i (slice_index_or ts i no_track)) ++ cylinder_lines c (i + 1)
    (drop (i + 1) ts) ≡ out ++ cylinder_lines c i (drop i ts)
tracks_on out c ts i lt =
    append_assoc out (track_lines c i (slice_index_or ts i no_track)) (cylinder_lines c (i + 1) (drop (i + 1) ts))
    ∙ ap (λ l. out ++ l) (sym (at_zero (λ n m. cylinder_lines c n (drop i ts) ≡ track_lines c n
    (slice_index_or ts i no_track) ++ cylinder_lines c m (drop (i + 1) ts)) i (tracks_drop c 0 ts i lt)))

cylinders_drop : (c : ℕ) (cs : List Cylinder) (i : ℕ) → i < length cs
    → volume_lines (c + i) (drop i cs) ≡ cylinder_lines (c + i) 0 (slice_index_or cs i []) ++ volume_lines (c + (i + 1))
    (drop (i + 1) cs)
cylinders_drop c [] i lt = absurd (omega arith)
cylinders_drop c (t ∷ ts) zero lt = let e : c + 0 + 1 ≡ c + (0 + 1) = omega arith in
    ap (λ n. cylinder_lines (c + 0) 0 t ++ volume_lines n ts) e
cylinders_drop c (t ∷ ts) (suc i) lt =
    let less : i < length ts = omega arith in
    let e : c + suc i ≡ (c + 1) + i = omega arith in
    let f : (c + 1) + (i + 1) ≡ c + (suc i + 1) = omega arith in
    let s : suc i + 1 ≡ suc (i + 1) = omega arith in
    ap (λ n. volume_lines n (drop i ts)) e
    ∙ cylinders_drop (c + 1) ts i less
    ∙ ap (λ n. cylinder_lines n 0 (slice_index_or ts i []) ++ volume_lines ((c + 1) + (i + 1)) (drop (i + 1) ts))
    (sym e)
    ∙ ap (λ n. cylinder_lines (c + suc i) 0 (slice_index_or ts i []) ++ volume_lines n (drop (i + 1) ts)) f
    ∙ ap (λ n. cylinder_lines (c + suc i) 0 (slice_index_or ts i []) ++ volume_lines (c + (suc i + 1))
    (drop n (t ∷ ts))) (sym s)

-- The lines of cylinders from one on begin with that cylinder's.
pub cylinders_on : (out : List ℕ) (cs : List Cylinder) (i : ℕ) → i < length cs
    → (out ++ cylinder_lines i 0 (slice_index_or cs i [])) ++ volume_lines (i + 1)
    (drop (i + 1) cs) ≡ out ++ volume_lines i (drop i cs)
cylinders_on out cs i lt =
    append_assoc out (cylinder_lines i 0 (slice_index_or cs i [])) (volume_lines (i + 1) (drop (i + 1) cs))
    ∙ ap (λ l. out ++ l) (sym (at_zero (λ n m. volume_lines n (drop i cs) ≡ cylinder_lines n 0
    (slice_index_or cs i []) ++ volume_lines m (drop (i + 1) cs)) i (cylinders_drop 0 cs i lt)))

heads_drop : (c h : ℕ) (ts : Cylinder) (i : ℕ) → i < length ts
    → blank_heads c (h + i) (drop i ts) ≡ (if is_blank c (h + i) (slice_index_or ts i no_track) then 1 else 0) +
    blank_heads c (h + (i + 1)) (drop (i + 1) ts)
heads_drop c h [] i lt = absurd (omega arith)
heads_drop c h (t ∷ ts) zero lt = let e : h + 0 + 1 ≡ h + (0 + 1) = omega arith in
    ap (λ n. (if is_blank c (h + 0) t then 1 else 0) + blank_heads c n ts) e
heads_drop c h (t ∷ ts) (suc i) lt =
    let less : i < length ts = omega arith in
    let e : h + suc i ≡ (h + 1) + i = omega arith in
    let f : (h + 1) + (i + 1) ≡ h + (suc i + 1) = omega arith in
    let s : suc i + 1 ≡ suc (i + 1) = omega arith in
    ap (λ n. blank_heads c n (drop i ts)) e
    ∙ heads_drop c (h + 1) ts i less
    ∙ ap (λ n. (if is_blank c n (slice_index_or ts i no_track) then 1 else 0) + blank_heads c ((h + 1) + (i + 1))
    (drop (i + 1) ts)) (sym e)
    ∙ ap (λ n. (if is_blank c (h + suc i) (slice_index_or ts i no_track) then 1 else 0) + blank_heads c n
    (drop (i + 1) ts)) f
    ∙ ap (λ n. (if is_blank c (h + suc i) (slice_index_or ts i no_track) then 1 else 0) + blank_heads c
    (h + (suc i + 1)) (drop n (t ∷ ts))) (sym s)

-- The blank heads of a cylinder from one on are that head and those of the rest.
pub heads_on : (c : ℕ) (ts : Cylinder) (i : ℕ) → i < length ts
    → blank_heads c i (drop i ts) ≡ (if is_blank c i (slice_index_or ts i no_track) then 1 else 0) + blank_heads c
    (i + 1) (drop (i + 1) ts)
heads_on c ts i lt = at_zero (λ n m. blank_heads c n (drop i ts) ≡
    (if is_blank c n (slice_index_or ts i no_track) then 1 else 0) + blank_heads c m (drop (i + 1) ts)) i
    (heads_drop c 0 ts i lt)

count_drop : (c : ℕ) (cs : List Cylinder) (i : ℕ) → i < length cs
    → blank_count (c + i) (drop i cs) ≡ blank_heads (c + i) 0 (slice_index_or cs i []) + blank_count (c + (i + 1))
    (drop (i + 1) cs)
count_drop c [] i lt = absurd (omega arith)
count_drop c (t ∷ ts) zero lt = let e : c + 0 + 1 ≡ c + (0 + 1) = omega arith in
    ap (λ n. blank_heads (c + 0) 0 t + blank_count n ts) e
count_drop c (t ∷ ts) (suc i) lt =
    let less : i < length ts = omega arith in
    let e : c + suc i ≡ (c + 1) + i = omega arith in
    let f : (c + 1) + (i + 1) ≡ c + (suc i + 1) = omega arith in
    let s : suc i + 1 ≡ suc (i + 1) = omega arith in
    ap (λ n. blank_count n (drop i ts)) e
    ∙ count_drop (c + 1) ts i less
    ∙ ap (λ n. blank_heads n 0 (slice_index_or ts i []) + blank_count ((c + 1) + (i + 1)) (drop (i + 1) ts)) (sym e)
    ∙ ap (λ n. blank_heads (c + suc i) 0 (slice_index_or ts i []) + blank_count n (drop (i + 1) ts)) f
    ∙ ap (λ n. blank_heads (c + suc i) 0 (slice_index_or ts i []) + blank_count (c + (suc i + 1)) (drop n (t ∷ ts)))
    (sym s)

-- The blank tracks of cylinders from one on are those of that cylinder and of the rest.
pub count_on : (cs : List Cylinder) (i : ℕ) → i < length cs → blank_count i (drop i cs) ≡ blank_heads i 0
    (slice_index_or cs i []) + blank_count (i + 1) (drop (i + 1) cs)
count_on cs i lt = at_zero (λ n m. blank_count n (drop i cs) ≡ blank_heads n 0 (slice_index_or cs i []) + blank_count m
    (drop (i + 1) cs)) i (count_drop 0 cs i lt)

-- Three parts that are appended one after another are appended at once.
pub append_three : (o a b c : List ℕ) → ((o ++ a) ++ b) ++ c ≡ o ++ (a ++ (b ++ c))
append_three o a b c = append_assoc (o ++ a) b c ∙ append_assoc o a (b ++ c)
