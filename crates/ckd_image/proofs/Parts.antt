-- Laws of images, part by part.
use Rattle.std.specs.Prelude.{ℕ, zero, suc, ◌+◌, ◌≡◌, ◌<◌, refl, List, [], ◌∷◌, ◌++◌, length, drop, slice_index_or}
use Rattle.std.proofs.Common.{sym, ◌∙◌, ap, arith, append_assoc}
use Rattle.std.specs.Prelude.{Option, None, Some}
use Rattle.std.proofs.Common.{append-nil, take_all}
use Rattle.std.specs.Io.KnownBytes.{Appends, Keeps}
use Rattle.s370_num.specs.Host.{AppendsFront}
use Rattle.ckd_track.specs.Track.{Record, no_record}
use Rattle.ckd_volume.specs.Front.{Cylinder, no_track}
use Rattle.ckd_image.specs.Image.{record_bytes, records_bytes, track_bytes, tracks_bytes, cylinders_bytes, tracks_total}
use Rattle.ckd_image.specs.Image.{cylinders_total}

-- Four parts that are appended one after another are appended at once.
pub append_four : (o a b k d : List ℕ) → (((o ++ a) ++ b) ++ k) ++ d ≡ o ++ ((a ++ b) ++ (k ++ d))
append_four o a b k d =
    append_assoc ((o ++ a) ++ b) k d ∙ ap (λ l. l ++ (k ++ d)) (append_assoc o a b) ∙ append_assoc o (a ++ b) (k ++ d)

-- Two parts that are appended one after another are appended at once.
pub append_two : (o a : List ℕ) (n : ℕ) (b : List ℕ) → ((o ++ a) ++ n ∷ []) ++ b ≡ o ++ (a ++ (n ∷ b))
append_two o a n b = append_assoc (o ++ a) (n ∷ []) b ∙ append_assoc o a (n ∷ b)

pub records_drop : (rs : List Record) (i : ℕ) → i < length rs
    → records_bytes (drop i rs) ≡ record_bytes (slice_index_or rs i no_record) ++ records_bytes (drop (i + 1) rs)
records_drop [] i lt = absurd (omega arith)
records_drop (r ∷ rs) zero lt = refl
records_drop (r ∷ rs) (suc i) lt = let less : i < length rs = omega arith in
    let e : suc i + 1 ≡ suc (i + 1) = omega arith in records_drop rs i less
    ∙ ap (λ n. record_bytes (slice_index_or rs i no_record) ++ records_bytes (drop n (r ∷ rs))) (sym e)

pub tracks_drop : (ts : Cylinder) (i : ℕ) → i < length ts → tracks_bytes (drop i ts) ≡ track_bytes
    (slice_index_or ts i no_track) ++ tracks_bytes (drop (i + 1) ts)
tracks_drop [] i lt = absurd (omega arith)
tracks_drop (t ∷ ts) zero lt = refl
tracks_drop (t ∷ ts) (suc i) lt = let less : i < length ts = omega arith in
    let e : suc i + 1 ≡ suc (i + 1) = omega arith in tracks_drop ts i less
    ∙ ap (λ n. track_bytes (slice_index_or ts i no_track) ++ tracks_bytes (drop n (t ∷ ts))) (sym e)

pub cylinders_drop : (cs : List Cylinder) (i : ℕ) → i < length cs
    → cylinders_bytes (drop i cs) ≡ tracks_bytes (slice_index_or cs i []) ++ cylinders_bytes (drop (i + 1) cs)
cylinders_drop [] i lt = absurd (omega arith)
cylinders_drop (c ∷ cs) zero lt = refl
cylinders_drop (c ∷ cs) (suc i) lt = let less : i < length cs = omega arith in
    let e : suc i + 1 ≡ suc (i + 1) = omega arith in cylinders_drop cs i less
    ∙ ap (λ n. tracks_bytes (slice_index_or cs i []) ++ cylinders_bytes (drop n (c ∷ cs))) (sym e)

-- one part more
pub records_on : (out : List ℕ) (rs : List Record) (i : ℕ) → i < length rs
    → (out ++ record_bytes (slice_index_or rs i no_record)) ++ records_bytes (drop (i + 1) rs) ≡ out ++ records_bytes
    (drop i rs)
records_on out rs i lt = append_assoc out (record_bytes (slice_index_or rs i no_record))
    (records_bytes (drop (i + 1) rs)) ∙ ap (λ l. out ++ l) (sym (records_drop rs i lt))

-- The bytes of tracks from one on begin with that track's.
pub tracks_on : (out : List ℕ) (ts : Cylinder) (i : ℕ) → i < length ts
    → (out ++ track_bytes (slice_index_or ts i no_track)) ++ tracks_bytes (drop (i + 1) ts) ≡ out ++ tracks_bytes
    (drop i ts)
tracks_on out ts i lt = append_assoc out (track_bytes (slice_index_or ts i no_track)) (tracks_bytes (drop (i + 1) ts))
    ∙ ap (λ l. out ++ l) (sym (tracks_drop ts i lt))

-- The bytes of cylinders from one on begin with that cylinder's.
pub cylinders_on : (out : List ℕ) (cs : List Cylinder) (i : ℕ) → i < length cs
    → (out ++ tracks_bytes (slice_index_or cs i [])) ++ cylinders_bytes (drop (i + 1) cs) ≡ out ++ cylinders_bytes
    (drop i cs)
cylinders_on out cs i lt = append_assoc out (tracks_bytes (slice_index_or cs i [])) (cylinders_bytes (drop (i + 1) cs))
    ∙ ap (λ l. out ++ l) (sym (cylinders_drop cs i lt))

-- The records of tracks from one on are that track's and those of the rest.
pub tracks_total_on : (ts : Cylinder) (i : ℕ) → i < length ts
    → tracks_total (drop i ts) ≡ length (slice_index_or ts i no_track).records + tracks_total (drop (i + 1) ts)
tracks_total_on [] i lt = absurd (omega arith)
tracks_total_on (t ∷ ts) zero lt = refl
tracks_total_on (t ∷ ts) (suc i) lt = let less : i < length ts = omega arith in
    let e : suc i + 1 ≡ suc (i + 1) = omega arith in tracks_total_on ts i less
    ∙ ap (λ n. length (slice_index_or ts i no_track).records + tracks_total (drop n (t ∷ ts))) (sym e)

-- The records of cylinders from one on are that cylinder's and those of the rest.
pub cylinders_total_on : (cs : List Cylinder) (i : ℕ) → i < length cs
    → cylinders_total (drop i cs) ≡ tracks_total (slice_index_or cs i []) + cylinders_total (drop (i + 1) cs)
cylinders_total_on [] i lt = absurd (omega arith)
cylinders_total_on (c ∷ cs) zero lt = refl
cylinders_total_on (c ∷ cs) (suc i) lt = let less : i < length cs = omega arith in
    let e : suc i + 1 ≡ suc (i + 1) = omega arith in cylinders_total_on cs i less
    ∙ ap (λ n. tracks_total (slice_index_or cs i []) + cylinders_total (drop n (c ∷ cs))) (sym e)

-- The parts of an image are joined in either order.
pub image_parts : (a b c d e : List ℕ) → (((a ++ b) ++ c) ++ d) ++ e ≡ (a ++ (b ++ c)) ++ (d ++ e)
image_parts a b c d e = append_assoc ((a ++ b) ++ c) d e ∙ ap (λ l. l ++ (d ++ e)) (append_assoc a b c)

-- a writer that nothing was written to has a beginning
pub nothing_appended : (known : Option (List ℕ)) (bytes : List ℕ) → AppendsFront known known bytes
nothing_appended None bytes = (zero, omega arith, tt)
nothing_appended (Some xs) bytes = (zero, omega arith, sym (append-nil xs))

-- what was appended is still there after a flush
pub appended_kept : (old written flushed : Option (List ℕ)) (bytes : List ℕ) → Appends old written bytes
    → Keeps written flushed → Appends old flushed bytes
appended_kept None written flushed bytes appends keeps = tt
appended_kept (Some xs) None flushed bytes appends keeps = absurd appends
appended_kept (Some xs) (Some ys) None bytes appends keeps = absurd keeps
appended_kept (Some xs) (Some ys) (Some zs) bytes appends keeps = keeps ∙ appends

-- all bytes are a beginning of themselves
pub whole_front : (old new : Option (List ℕ)) (bytes : List ℕ) → Appends old new bytes → AppendsFront old new bytes
whole_front old new bytes appends = (
  length bytes,
  omega arith,
  rw (take_all (length bytes) bytes (omega arith)) appends,
)
