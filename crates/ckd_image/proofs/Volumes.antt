-- Laws of volumes whose tracks are read one after another.
use Rattle.std.specs.Prelude.{ℕ, zero, suc, ◌+◌, ◌*◌, ◌≡◌, ◌<◌, refl, List, [], ◌∷◌, ◌++◌, length, take, get_or, set}
use Rattle.std.specs.Prelude.{All}
use Rattle.std.proofs.Common.{sym, ◌∙◌, ap, subst, arith, append_assoc, append-nil, length-append, length-set}
use Rattle.std.proofs.Common.{length-take-le}
use Rattle.std.proofs.lemmas.List.{take_more_set, set-append_left, get_or_append_left, get_or-append-add}
use Rattle.std.proofs.lemmas.List.{get_or-set_other}
use Rattle.std.proofs.lemmas.List.Elements.{All-nil, All-cons, All-head, All-tail, All-push, All-set}
use Rattle.ckd_track.specs.Track.{TrackFormat}
use Rattle.ckd_volume.specs.Front.{Cylinder, no_track}
use Rattle.ckd_volume.specs.Volume.{VolumeFormat, blank_tracks, blank_cylinders, home_of}
use Rattle.ckd_image.specs.Image.{track_bytes, tracks_bytes, cylinders_bytes, tracks_total, cylinders_total}
use Rattle.ckd_image.specs.Reading.{IsGood, all_tracks}
use Rattle.ckd_image.specs.Parts.{ReadTrack, ReadTracks, IsNextFault, IsTracksFault}
use Rattle.ckd_image.specs.declared.faults.ImageError.{ImageError}

abbrev pub HaveHeads : List Cylinder → Type 0
HaveHeads cs = All (λ cylinder. length cylinder ≡ 19) cs

pub tracks_append : (ts us : List TrackFormat) → tracks_bytes (ts ++ us) ≡ tracks_bytes ts ++ tracks_bytes us
tracks_append [] us = refl
tracks_append (t ∷ ts) us = ap (λ l. track_bytes t ++ l) (tracks_append ts us)
    ∙ sym (append_assoc (track_bytes t) (tracks_bytes ts) (tracks_bytes us))

-- The bytes of cylinders are those of all their tracks.
pub all_bytes : (cs : List Cylinder) → cylinders_bytes cs ≡ tracks_bytes (all_tracks cs)
all_bytes [] = refl
all_bytes (c ∷ cs) = ap (λ l. tracks_bytes c ++ l) (all_bytes cs) ∙ sym (tracks_append c (all_tracks cs))

total_append : (ts us : List TrackFormat) → tracks_total (ts ++ us) ≡ tracks_total ts + tracks_total us
total_append [] us = omega arith
total_append (t ∷ ts) us = omega (arith, total_append ts us)

-- The records of cylinders are those of all their tracks.
pub all_total : (cs : List Cylinder) → cylinders_total cs ≡ tracks_total (all_tracks cs)
all_total [] = refl
all_total (c ∷ cs) = omega (arith, all_total cs, total_append c (all_tracks cs))

-- A volume has nineteen tracks for each of its cylinders.
pub all_length : (cs : List Cylinder) → HaveHeads cs → length (all_tracks cs) ≡ 19 * length cs
all_length [] h = refl
all_length (c ∷ cs) h = omega (
  arith,
  length-append c (all_tracks cs),
  All-head (λ cylinder. length cylinder ≡ 19) c cs h,
  all_length cs
      (All-tail (λ cylinder. length cylinder ≡ 19) c cs h),
)

-- a track of a cylinder, among all tracks
pub track_among : (cs : List Cylinder) (c h : ℕ) → HaveHeads cs → c < length cs → h < 19
    → get_or (get_or cs c []) h no_track ≡ get_or (all_tracks cs) (19 * c + h) no_track
track_among [] c h heads lt low = absurd (omega arith)
track_among (x ∷ cs) zero h heads lt low =
    let nineteen : length x ≡ 19 = All-head (λ cylinder. length cylinder ≡ 19) x cs heads in
    let place : 19 * 0 + h ≡ h = omega arith in
    sym (get_or_append_left x (all_tracks cs) no_track h (omega (arith, nineteen)))
    ∙ ap (λ i. get_or (x ++ all_tracks cs) i no_track) (sym place)
track_among (x ∷ cs) (suc c) h heads lt low =
    let nineteen : length x ≡ 19 = All-head (λ cylinder. length cylinder ≡ 19) x cs heads in
    let place : 19 * suc c + h ≡ length x + (19 * c + h) = omega (arith, nineteen) in
    let less : c < length cs = omega arith in
    track_among cs c h (All-tail (λ cylinder. length cylinder ≡ 19) x cs heads) less low
    ∙ sym (get_or-append-add x (all_tracks cs) (19 * c + h) no_track)
    ∙ ap (λ i. get_or (x ++ all_tracks cs) i no_track) (sym place)

set_behind : {A : Type 0} (xs ys : List A) (n : ℕ) (a : A) → set (xs ++ ys) (length xs + n) a ≡ xs ++ set ys n a
set_behind {A} [] ys n a = let e : length {A = A} [] + n ≡ n = omega arith in ap (λ i. set ys i a) e
set_behind {A} (x ∷ xs) ys n a = let e : length (x ∷ xs) + n ≡ suc (length xs + n) = omega arith in
    ap (λ i. set (x ∷ (xs ++ ys)) i a) e ∙ ap (λ l. x ∷ l) (set_behind xs ys n a)

pub set_among : (cs : List Cylinder) (c h : ℕ) (t : TrackFormat) → HaveHeads cs → c < length cs → h < 19
    → all_tracks (set cs c (set (get_or cs c []) h t)) ≡ set (all_tracks cs) (19 * c + h) t
set_among [] c h t heads lt low = absurd (omega arith)
set_among (x ∷ cs) zero h t heads lt low =
    let nineteen : length x ≡ 19 = All-head (λ cylinder. length cylinder ≡ 19) x cs heads in
    let place : 19 * 0 + h ≡ h = omega arith in
    sym (set-append_left x (all_tracks cs) h t (omega (arith, nineteen)))
    ∙ ap (λ i. set (x ++ all_tracks cs) i t) (sym place)
set_among (x ∷ cs) (suc c) h t heads lt low =
    let nineteen : length x ≡ 19 = All-head (λ cylinder. length cylinder ≡ 19) x cs heads in
    let place : 19 * suc c + h ≡ length x + (19 * c + h) = omega (arith, nineteen) in
    let less : c < length cs = omega arith in
    ap (λ l. x ++ l) (set_among cs c h t (All-tail (λ cylinder. length cylinder ≡ 19) x cs heads) less low)
    ∙ sym (set_behind x (all_tracks cs) (19 * c + h) t)
    ∙ ap (λ i. set (x ++ all_tracks cs) i t) (sym place)

heads_among : (cs : List Cylinder) (c h : ℕ) (t : TrackFormat) → HaveHeads cs → c < length cs
    → HaveHeads (set cs c (set (get_or cs c []) h t))
heads_among cs c h t heads lt =
    All-set (λ cylinder. length cylinder ≡ 19) cs c (set (get_or cs c []) h t) (length-set (get_or cs c []) h t
    ∙ heads c [] lt) heads

-- one track more
pub one_more_track : (old mid new : VolumeFormat) (k c h : ℕ) (bytes rest behind : List ℕ)
    → ReadTracks old mid k bytes rest
    → c < length mid.cylinders → h < 19 → k ≡ 19 * c + h → ReadTrack mid new c h rest behind
    → ReadTracks old new (k + 1) bytes behind
one_more_track old mid new k c h bytes rest behind r lt low at t =
    let cs = mid.cylinders in
    let written : new.cylinders ≡ set cs c (set (get_or cs c []) h t.track) = ap (λ v. v.cylinders) t.placed in
    let among : all_tracks new.cylinders ≡ set (all_tracks cs) k t.track =
    ap all_tracks written ∙ set_among cs c h t.track r.heads lt low
    ∙ ap (λ i. set (all_tracks cs) i t.track) (sym at) in
    let long : k < length (all_tracks cs) = omega (arith, all_length cs r.heads) in
    let front : take (k + 1) (all_tracks new.cylinders) ≡ take k (all_tracks cs) ++ t.track ∷ [] =
    ap (λ l. take (k + 1) l) among ∙ take_more_set (all_tracks cs) k t.track long in
    record {
      whole = r.whole ∙ ap (λ l. tracks_bytes (take k (all_tracks cs)) ++ l) t.whole
          ∙ sym (append_assoc (tracks_bytes (take k (all_tracks cs))) (track_bytes t.track) behind)
          ∙ ap (λ l. (tracks_bytes (take k (all_tracks cs)) ++ l) ++ behind) (sym (append-nil (track_bytes t.track)))
          ∙ ap (λ l. l ++ behind) (sym (tracks_append (take k (all_tracks cs)) (t.track ∷ [])))
          ∙ ap (λ l. tracks_bytes l ++ behind) (sym front);
      good = subst (All IsGood) (sym front) (All-push IsGood (take k (all_tracks cs)) t.track r.good t.good);
      blank = λ i le. ap (λ l. (get_or l i no_track).records) among
          ∙ ap (λ x. x.records) (get_or-set_other (all_tracks cs) k i t.track no_track (omega (arith, le)))
          ∙ r.blank i (omega (arith, le));
      heads = subst HaveHeads (sym written) (heads_among cs c h t.track r.heads lt);
      cylinders = ap length written ∙ length-set cs c (set (get_or cs c []) h t.track) ∙ r.cylinders;
      volser = ap (λ v. v.volser) t.placed ∙ r.volser;
    }

-- no track of these has a record
abbrev AreBlank : List TrackFormat → Type 0
AreBlank ts = (i : ℕ) → (get_or ts i no_track).records ≡ []

blank_nil : AreBlank []
blank_nil i = refl

blank_cons : (t : TrackFormat) (ts : List TrackFormat) → t.records ≡ [] → AreBlank ts → AreBlank (t ∷ ts)
blank_cons t ts e h zero = e
blank_cons t ts e h (suc i) = h i

blank_append : (ts us : List TrackFormat) → AreBlank ts → AreBlank us → AreBlank (ts ++ us)
blank_append [] us h k = k
blank_append (t ∷ ts) us h k = blank_cons t (ts ++ us) (h 0) (blank_append ts us (λ i. h (suc i)) k)

blank_tracks_are : (c h n : ℕ) → AreBlank (blank_tracks c h n)
blank_tracks_are c h zero = blank_nil
blank_tracks_are c h (suc n) = blank_cons (record { home = home_of c h; records = [] }) (blank_tracks c (h + 1) n) refl
    (blank_tracks_are c (h + 1) n)

blank_cylinders_are : (c n : ℕ) → AreBlank (all_tracks (blank_cylinders c n))
blank_cylinders_are c zero = blank_nil
blank_cylinders_are c (suc n) = blank_append (blank_tracks c 0 19) (all_tracks (blank_cylinders (c + 1) n))
    (blank_tracks_are c 0 19) (blank_cylinders_are (c + 1) n)

blank_heads : (c n : ℕ) → HaveHeads (blank_cylinders c n)
blank_heads c zero = All-nil (λ cylinder. length cylinder ≡ 19)
blank_heads c (suc n) = All-cons (λ cylinder. length cylinder ≡ 19) (blank_tracks c 0 19)
    (blank_cylinders (c + 1) n) refl (blank_heads (c + 1) n)

-- As many blank cylinders are made as were asked for.
pub blank_count : (c n : ℕ) → length (blank_cylinders c n) ≡ n
blank_count c zero = refl
blank_count c (suc n) = ap suc (blank_count (c + 1) n)

-- no track was read yet
pub no_tracks : (v : VolumeFormat) (bytes : List ℕ) → v.cylinders ≡ blank_cylinders 0 (length v.cylinders)
    → ReadTracks v v 0 bytes bytes
no_tracks v bytes e =
    record {
      whole = refl;
      good = All-nil IsGood;
      blank = λ i le. subst (λ cs. (get_or (all_tracks cs) i no_track).records ≡ []) (sym e)
          (blank_cylinders_are 0 (length v.cylinders) i);
      heads = subst HaveHeads (sym e) (blank_heads 0 (length v.cylinders));
      cylinders = refl;
      volser = refl;
    }

-- the next track is wrong
pub wrong_track : (old mid : VolumeFormat) (k : ℕ) (bytes rest : List ℕ) (fault : ImageError)
    → ReadTracks old mid k bytes rest
    → k < 19 * length old.cylinders → IsNextFault k rest fault → IsTracksFault (length old.cylinders) bytes fault
wrong_track old mid k bytes rest fault r lt f =
    let among : length (take k (all_tracks mid.cylinders)) ≡ k =
    length-take-le k (all_tracks mid.cylinders) (omega (arith, all_length mid.cylinders r.heads, r.cylinders)) in
    record {
      tracks = take k (all_tracks mid.cylinders);
      rest = rest;
      good = r.good;
      whole = r.whole;
      next = omega (arith, among);
      fault_is = subst (λ n. IsNextFault n rest fault) (sym among) f;
    }
