-- No two answers fit the same bytes.
use Rattle.std.specs.Prelude.{ℕ, ◌+◌, ◌*◌, ◌/◌, ◌%◌, ◌≡◌, ◌<◌, ◌==◌, ◌⊎◌, cond, refl, List, [], ◌∷◌, ◌++◌, length, take}
use Rattle.std.specs.Prelude.{drop, Option, Some, None, Result, Ok, Err}
use Rattle.std.proofs.Common.{sym, ◌∙◌, ap, subst, arith, append_assoc, append-nil, take_at, length-append, inl, inr}
use Rattle.std.proofs.Common.{eq-eqb, ne_eqb}
use Rattle.std.proofs.lemmas.List.Elements.{All-head, All-tail}
use Rattle.ckd_track.specs.Track.{TrackFormat, cost}
use Rattle.ckd_volume.specs.Front.{Cylinder}
use Rattle.ckd_volume.specs.Volume.{VolumeFormat}
use Rattle.ckd_image.specs.Image.{track_bytes, tracks_bytes, tracks_total, cylinders_total, four_bytes}
use Rattle.ckd_image.specs.Reading.{IsHeader, IsSpelled, IsGood, Begins, IsFault, IsReading, IsCutTrack, HasNoHeader}
use Rattle.ckd_image.specs.Reading.{all_tracks, end_of}
use Rattle.ckd_image.specs.Parts.{IsFullTrack}
use Rattle.ckd_image.specs.declared.header.Version.{Version}
use Rattle.ckd_image.specs.declared.header.Version.TheVariants.{One, Two}
use Rattle.ckd_image.specs.declared.faults.ImageError.{ImageError}
use Rattle.ckd_image.specs.declared.faults.ImageError.TheVariants.{Memory, BadMagic, Truncated, BadTrack, Trailing}
use Rattle.ckd_image.specs.declared.faults.ImageError.TheVariants.{Device, BadTotal}
use Rattle.ckd_image.proofs.Volumes.{HaveHeads, all_length, all_total}
use Rattle.ckd_image.proofs.Unique.{one_track}
use Rattle.ckd_image.proofs.Readings.{Found, Stops, alike, header_long}

abbrev pub Answer : Type 0
Answer = Result VolumeFormat ImageError

-- a cut track does not begin with a whole one
cut_not_whole : (rest : List ℕ) → IsCutTrack rest → (t : TrackFormat) (z : List ℕ) → IsSpelled t
    → rest ≡ track_bytes t ++ z → ⊥
cut_not_whole rest c t z spelled e =
    let whole : track_bytes t ++ (z ++ c.more) ≡ track_bytes c.track ++ [] =
    sym (append_assoc (track_bytes t) z c.more) ∙ ap (λ l. l ++ c.more) (sym e) ∙ c.whole
    ∙ sym (append-nil (track_bytes c.track)) in
    let same = one_track t c.track (z ++ c.more) [] spelled c.spelled whole in
    absurd (omega (arith, ap length same.rest, length-append z c.more, c.some))

full_not_good : (rest : List ℕ) → IsFullTrack rest → (t : TrackFormat) (z : List ℕ) → IsGood t
    → rest ≡ track_bytes t ++ z → ⊥
full_not_good rest f t z good e =
    let same = one_track t f.track z f.rest good.spelled f.spelled (sym e ∙ f.whole) in
    absurd (omega (arith, good.fits, f.full, ap (λ x. cost x.records) same.this))

-- the next track is cut, or full
abbrev pub NextWrong : ℕ → List ℕ → Answer → Type 0
NextWrong number rest a =
    ((a ≡ Err Truncated) × IsCutTrack rest)
    ⊎ ((c : ℕ) × (h : ℕ) × (a ≡ Err (BadTrack c h)) × (number ≡ 19 * c + h) × (h < 19) × IsFullTrack rest)

next_once : (number : ℕ) (rest : List ℕ) (a b : Answer) → NextWrong number rest a → NextWrong number rest b → a ≡ b
next_once number rest a b (inl x) (inl y) = x.0 ∙ sym y.0
next_once number rest a b (inl x) (inr (c, h, e, at, low, full)) = absurd
    (cut_not_whole rest x.1 full.track full.rest full.spelled full.whole)
next_once number rest a b (inr (c, h, e, at, low, full)) (inl y) = absurd
    (cut_not_whole rest y.1 full.track full.rest full.spelled full.whole)
next_once number rest a b (inr (c, h, e, at, low, full)) (inr (c', h', e', at', low', full')) =
    let cs : c ≡ c' = omega (arith, at, at', low, low') in
    let hs : h ≡ h' = omega (arith, at, at', low, low') in
    e ∙ ap (λ x. Err (BadTrack x h)) cs ∙ ap (λ x. Err (BadTrack c' x)) hs ∙ sym e'

-- how the bytes after all tracks are judged
abbrev pub more_judged : List ℕ → Option ImageError
more_judged [] = None
more_judged (x ∷ xs) = Some Trailing

abbrev pub judged : Version → ℕ → List ℕ → Option ImageError
judged One total rest = more_judged rest
judged Two total (a ∷ b ∷ c ∷ d ∷ rest) = cond (a * 16777216 + (b * 65536 + (c * 256 + d)) == total) (more_judged rest)
    (Some BadTotal)
judged Two total [] = Some Truncated
judged Two total (a ∷ []) = Some Truncated
judged Two total (a ∷ b ∷ []) = Some Truncated
judged Two total (a ∷ b ∷ c ∷ []) = Some Truncated

judged_short : (total : ℕ) (rest : List ℕ) → length rest < 4 → judged Two total rest ≡ Some Truncated
judged_short total [] lt = refl
judged_short total (a ∷ []) lt = refl
judged_short total (a ∷ b ∷ []) lt = refl
judged_short total (a ∷ b ∷ c ∷ []) lt = refl
judged_short total (a ∷ b ∷ c ∷ d ∷ rest) lt = absurd (omega arith)

judged_more : (rest : List ℕ) → 0 < length rest → more_judged rest ≡ Some Trailing
judged_more [] lt = absurd (omega arith)
judged_more (x ∷ xs) lt = refl

judged_right : (version : Version) (total : ℕ) (z : List ℕ) → judged version total
    (end_of version total ++ z) ≡ more_judged z
judged_right One total z = refl
judged_right Two total z =
    let e : total / 16777216 * 16777216 + (total / 65536 % 256 * 65536 + (total / 256 % 256 * 256 + total % 256)) ≡
    total = omega arith in
    ap (λ b. cond b (more_judged z) (Some BadTotal)) (eq-eqb
    (total / 16777216 * 16777216 + (total / 65536 % 256 * 65536 + (total / 256 % 256 * 256 + total % 256))) total e)

judged_other : (total n : ℕ) (z : List ℕ) → (n ≡ total → ⊥) → judged Two total (four_bytes n ++ z) ≡ Some BadTotal
judged_other total n z ne =
    let e : n / 16777216 * 16777216 + (n / 65536 % 256 * 65536 + (n / 256 % 256 * 256 + n % 256)) ≡ n = omega arith in
    ap (λ b. cond b (more_judged z) (Some BadTotal)) (ne_eqb
    (n / 16777216 * 16777216 + (n / 65536 % 256 * 65536 + (n / 256 % 256 * 256 + n % 256))) total
    (λ same. ne (sym e ∙ same)))

-- the volume, where all is well
pub record IsVolumeOf (volser : List ℕ) (count : ℕ) (tracks : List TrackFormat) (v : VolumeFormat) : Type 0 where
  pub volser_is : v.volser ≡ volser
  pub count_is : length v.cylinders ≡ count
  pub heads : HaveHeads v.cylinders
  pub tracks_are : all_tracks v.cylinders ≡ tracks

front_same : {A : Type 0} (p q x y : List A) → length p ≡ length q → p ++ x ≡ q ++ y → p ≡ q
front_same [] [] x y long e = refl
front_same [] (b ∷ q) x y long e = absurd (omega (arith, long))
front_same (a ∷ p) [] x y long e = absurd (omega (arith, long))
front_same {A} (a ∷ p) (b ∷ q) x y long e =
    ap (λ l. take 1 l ++ p) e ∙ ap (λ l. b ∷ l) (front_same p q x y (omega (arith, long)) (ap (λ l. drop 1 l) e))

back_same : {A : Type 0} (p q x y : List A) → length p ≡ length q → p ++ x ≡ q ++ y → x ≡ y
back_same [] [] x y long e = e
back_same [] (b ∷ q) x y long e = absurd (omega (arith, long))
back_same (a ∷ p) [] x y long e = absurd (omega (arith, long))
back_same (a ∷ p) (b ∷ q) x y long e = back_same p q x y (omega (arith, long)) (ap (λ l. drop 1 l) e)

same_cylinders : (cs ds : List Cylinder) → HaveHeads cs → HaveHeads ds → length cs ≡ length ds
    → all_tracks cs ≡ all_tracks ds → cs ≡ ds
same_cylinders [] [] hc hd long e = refl
same_cylinders [] (d ∷ ds) hc hd long e = absurd (omega (arith, long))
same_cylinders (c ∷ cs) [] hc hd long e = absurd (omega (arith, long))
same_cylinders (c ∷ cs) (d ∷ ds) hc hd long e =
    let heads : length c ≡ length d = All-head (λ cylinder. length cylinder ≡ 19) c cs hc
    ∙ sym (All-head (λ cylinder. length cylinder ≡ 19) d ds hd) in
    ap (λ x. x ∷ cs) (front_same c d (all_tracks cs) (all_tracks ds) heads e)
    ∙ ap (λ x. d ∷ x) (same_cylinders cs ds (All-tail (λ cylinder. length cylinder ≡ 19) c cs hc)
    (All-tail (λ cylinder. length cylinder ≡ 19) d ds hd) (omega (arith, long))
    (back_same c d (all_tracks cs) (all_tracks ds) heads e))

same_volume : (volser : List ℕ) (count : ℕ) (tracks : List TrackFormat) (v w : VolumeFormat)
    → IsVolumeOf volser count tracks v → IsVolumeOf volser count tracks w → v ≡ w
same_volume volser count tracks v w hv hw =
    ap (λ x. record { volser = x; cylinders = v.cylinders }) (hv.volser_is ∙ sym hw.volser_is)
    ∙ ap (λ x. record { volser = w.volser; cylinders = x })
    (same_cylinders v.cylinders w.cylinders hv.heads hw.heads (hv.count_is ∙ sym hw.count_is) (hv.tracks_are
    ∙ sym hw.tracks_are))

abbrev pub Ended : List ℕ → ℕ → List TrackFormat → Option ImageError → Answer → Type 0
Ended volser count tracks reported a =
    ((f : ImageError) × (a ≡ Err f) × (reported ≡ Some f))
    ⊎ ((v : VolumeFormat) × (a ≡ Ok v) × (reported ≡ None) × IsVolumeOf volser count tracks v)

number_of : Option ImageError → ℕ
number_of None = 0
number_of (Some f) = 1

fault_in : Option ImageError → ImageError
fault_in None = Memory
fault_in (Some f) = f

some_once : (f g : ImageError) → Some f ≡ Some g → f ≡ g
unfolding fault_in
some_once f g e = ap fault_in e

not_both : (f : ImageError) → Some f ≡ None → ⊥
unfolding number_of
not_both f e = absurd (omega (arith, ap number_of e))

ended_once : (volser : List ℕ) (count : ℕ) (tracks : List TrackFormat) (reported : Option ImageError) (a b : Answer)
    → Ended volser count tracks reported a → Ended volser count tracks reported b → a ≡ b
ended_once volser count tracks reported a b (inl (f, e, t)) (inl (g, e', t')) = e ∙ ap Err (some_once f g (sym t ∙ t'))
    ∙ sym e'
ended_once volser count tracks reported a b (inl (f, e, t)) (inr (w, e', t', h)) = absurd (not_both f (sym t ∙ t'))
ended_once volser count tracks reported a b (inr (v, e, t, h)) (inl (g, e', t')) = absurd (not_both g (sym t' ∙ t))
ended_once volser count tracks reported a b (inr (v, e, t, h)) (inr (w, e', t', h')) = e
    ∙ ap Ok (same_volume volser count tracks v w h h') ∙ sym e'

-- where the bytes are judged: in the header, in a track, or after all tracks
abbrev pub InHeader : List ℕ → Answer → Type 0
InHeader bytes a = ((a ≡ Err Truncated) × (length bytes < 12)) ⊎ ((a ≡ Err BadMagic) × HasNoHeader bytes)

pub record InTrack (bytes : List ℕ) (a : Answer) : Type 0 where
  pub found : Found bytes
  pub next : length found.tracks < 19 * found.count
  pub wrong : NextWrong (length found.tracks) found.rest a

pub record AtEnd (bytes : List ℕ) (a : Answer) : Type 0 where
  pub found : Found bytes
  pub all : length found.tracks ≡ 19 * found.count
  pub ended : Ended found.volser found.count found.tracks (judged found.version (tracks_total found.tracks) found.rest)
      a

abbrev pub Judged : List ℕ → Answer → Type 0
Judged bytes a = InHeader bytes a ⊎ (InTrack bytes a ⊎ AtEnd bytes a)

stops_at_end : (n : ℕ) (tracks : List TrackFormat) (rest : List ℕ) → length tracks ≡ n → Stops n tracks rest
stops_at_end n tracks rest e = record {
  within = omega (arith, e);
  last = λ lt t z good same. absurd (omega (arith, lt, e));
}

abbrev at_end : (bytes : List ℕ) (version : Version) (volser : List ℕ) (count : ℕ) (tracks : List TrackFormat)
    (rest : List ℕ) → Begins bytes version volser count tracks rest → length tracks ≡ 19 * count → Found bytes
at_end bytes version volser count tracks rest b e =
    record {
      version = version;
      volser = volser;
      count = count;
      tracks = tracks;
      rest = rest;
      begins = b;
      stops = stops_at_end (19 * count) tracks rest e;
    }

in_track : (bytes : List ℕ) (version : Version) (volser : List ℕ) (count : ℕ) (tracks : List TrackFormat)
    (rest : List ℕ) → Begins bytes version volser count tracks rest
    → length tracks < 19 * count → ((t : TrackFormat) (z : List ℕ) → IsGood t → rest ≡ track_bytes t ++ z → ⊥)
    → (a : Answer) → NextWrong (length tracks) rest a → InTrack bytes a
in_track bytes version volser count tracks rest b lt none a wrong =
    record {
      found = record {
        version = version;
        volser = volser;
        count = count;
        tracks = tracks;
        rest = rest;
        begins = b;
        stops = record { within = omega (arith, lt); last = λ less. none };
      };
      next = lt;
      wrong = wrong;
    }

faulty : (bytes : List ℕ) (f : ImageError) → IsFault bytes f → Judged bytes (Err f)
faulty bytes BadMagic h = inl (inr (refl, h))
faulty bytes Truncated (inl short) = inl (inl (refl, short))
faulty bytes Truncated (inr (inl h)) =
    inr (inl (in_track bytes h.version h.volser h.count h.tracks h.rest h.begins h.next
    (λ t z good e. cut_not_whole h.rest h.cut t z good.spelled e) (Err Truncated) (inl (refl, h.cut))))
faulty bytes Truncated (inr (inr h)) =
    inr (inr (record {
      found = at_end bytes Two h.volser h.count h.tracks h.rest h.begins h.all;
      all = h.all;
      ended = inl (Truncated, refl, judged_short (tracks_total h.tracks) h.rest h.cut);
    }))
faulty bytes (BadTrack c i) h =
    let full : IsFullTrack (track_bytes h.track ++ h.rest) = record {
      track = h.track;
      rest = h.rest;
      spelled = h.spelled;
      full = h.full;
      whole = refl;
    } in
    inr (inl (in_track bytes h.version h.volser h.count h.tracks (track_bytes h.track ++ h.rest) h.begins
    (omega (arith, h.next, h.cylinders, h.heads))
    (full_not_good (track_bytes h.track ++ h.rest) full) (Err (BadTrack c i))
    (inr (c, i, refl, h.next, h.heads, full))))
faulty bytes BadTotal h =
    inr (inr (record {
      found = at_end bytes Two h.volser h.count h.tracks (four_bytes h.total ++ h.rest) h.begins h.all;
      all = h.all;
      ended = inl (BadTotal, refl, judged_other (tracks_total h.tracks) h.total h.rest h.other);
    }))
faulty bytes Trailing h =
    inr (inr (record {
      found = at_end bytes h.version h.volser h.count h.tracks
          (end_of h.version (tracks_total h.tracks) ++ h.rest) h.begins h.all;
      all = h.all;
      ended = inl (Trailing, refl, judged_right h.version (tracks_total h.tracks) h.rest ∙ judged_more h.rest h.some);
    }))
faulty bytes Memory h = absurd h
faulty bytes (Device k) h = absurd h

judged_so : (bytes : List ℕ) (a : Answer) → IsReading bytes a → Judged bytes a
judged_so bytes (Err f) h = faulty bytes f h
judged_so bytes (Ok v) h =
    let tracks = all_tracks v.cylinders in
    let all = all_length v.cylinders h.heads in
    let right : judged h.version (tracks_total tracks) (end_of h.version (cylinders_total v.cylinders)) ≡ None =
    ap (λ n. judged h.version (tracks_total tracks) (end_of h.version n)) (all_total v.cylinders)
    ∙ ap (judged h.version (tracks_total tracks)) (sym (append-nil (end_of h.version (tracks_total tracks))))
    ∙ judged_right h.version (tracks_total tracks) [] in
    inr (inr (record {
      found = at_end bytes h.version v.volser (length v.cylinders) tracks
          (end_of h.version (cylinders_total v.cylinders)) h.begins all;
      all = all;
      ended = inr (v, refl, right, record { volser_is = refl; count_is = refl; heads = h.heads; tracks_are = refl });
    }))

-- a header that was found
found_long : (bytes : List ℕ) (f : Found bytes) → length bytes < 12 → ⊥
found_long bytes f lt =
    absurd (omega (
      arith,
      lt,
      ap length f.begins.whole,
      length-append f.begins.header (tracks_bytes f.tracks ++ f.rest),
      header_long f.begins.header f.version f.volser f.count f.begins.headed,
    ))

found_header : (bytes : List ℕ) (f : Found bytes) → HasNoHeader bytes → ⊥
found_header bytes f h =
    let header : f.begins.header ≡ take 12 bytes =
    sym (ap (λ l. take 12 l) f.begins.whole ∙ take_at f.begins.header (tracks_bytes f.tracks ++ f.rest) 12
    (header_long f.begins.header f.version f.volser f.count f.begins.headed)) in
    h.none f.version f.volser f.count (subst (λ x. IsHeader x f.version f.volser f.count) header f.begins.headed)

not_in_header : (bytes : List ℕ) (f : Found bytes) (a : Answer) → InHeader bytes a → ⊥
not_in_header bytes f a (inl h) = found_long bytes f h.1
not_in_header bytes f a (inr h) = found_header bytes f h.1

not_both_places : (bytes : List ℕ) (a b : Answer) → InTrack bytes a → AtEnd bytes b → ⊥
not_both_places bytes a b x y =
    let same = alike bytes x.found y.found in
    absurd (omega (arith, x.next, y.all, ap length same.tracks, same.count))

in_track_once : (bytes : List ℕ) (a b : Answer) → InTrack bytes a → InTrack bytes b → a ≡ b
in_track_once bytes a b x y =
    let same = alike bytes x.found y.found in
    next_once (length y.found.tracks) y.found.rest a b
    (subst (λ n. NextWrong n y.found.rest a) (ap length same.tracks)
    (subst (λ r. NextWrong (length x.found.tracks) r a) same.rest x.wrong)) y.wrong

at_end_once : (bytes : List ℕ) (a b : Answer) → AtEnd bytes a → AtEnd bytes b → a ≡ b
at_end_once bytes a b x y =
    let f = x.found in
    let g = y.found in
    let same = alike bytes f g in
    let reported : judged f.version (tracks_total f.tracks) f.rest ≡ judged g.version (tracks_total g.tracks) g.rest =
    ap (λ v. judged v (tracks_total f.tracks) f.rest) same.version
    ∙ ap (λ t. judged g.version (tracks_total t) f.rest) same.tracks
    ∙ ap (judged g.version (tracks_total g.tracks)) same.rest in
    let one = subst (λ t. Ended f.volser f.count f.tracks t a) reported x.ended in
    let two = subst (λ s. Ended s f.count f.tracks (judged g.version (tracks_total g.tracks) g.rest) a) same.volser one
    in
    let three = subst (λ n. Ended g.volser n f.tracks (judged g.version (tracks_total g.tracks) g.rest) a) same.count
    two in
    let four = subst (λ t. Ended g.volser g.count t (judged g.version (tracks_total g.tracks) g.rest) a) same.tracks
    three in
    ended_once g.volser g.count g.tracks (judged g.version (tracks_total g.tracks) g.rest) a b four y.ended

in_header_once : (bytes : List ℕ) (a b : Answer) → InHeader bytes a → InHeader bytes b → a ≡ b
in_header_once bytes a b (inl x) (inl y) = x.0 ∙ sym y.0
in_header_once bytes a b (inl x) (inr y) = absurd (omega (arith, x.1, y.1.there))
in_header_once bytes a b (inr x) (inl y) = absurd (omega (arith, y.1, x.1.there))
in_header_once bytes a b (inr x) (inr y) = x.0 ∙ sym y.0

judged_once : (bytes : List ℕ) (a b : Answer) → Judged bytes a → Judged bytes b → a ≡ b
judged_once bytes a b (inl x) (inl y) = in_header_once bytes a b x y
judged_once bytes a b (inl x) (inr (inl y)) = absurd (not_in_header bytes y.found a x)
judged_once bytes a b (inl x) (inr (inr y)) = absurd (not_in_header bytes y.found a x)
judged_once bytes a b (inr (inl x)) (inl y) = absurd (not_in_header bytes x.found b y)
judged_once bytes a b (inr (inr x)) (inl y) = absurd (not_in_header bytes x.found b y)
judged_once bytes a b (inr (inl x)) (inr (inl y)) = in_track_once bytes a b x y
judged_once bytes a b (inr (inl x)) (inr (inr y)) = absurd (not_both_places bytes a b x y)
judged_once bytes a b (inr (inr x)) (inr (inl y)) = absurd (not_both_places bytes b a y x)
judged_once bytes a b (inr (inr x)) (inr (inr y)) = at_end_once bytes a b x y

-- An image is read to one answer alone.
pub one_answer : (bytes : List ℕ) (a b : Answer) → IsReading bytes a → IsReading bytes b → a ≡ b
one_answer bytes a b x y = judged_once bytes a b (judged_so bytes a x) (judged_so bytes b y)
