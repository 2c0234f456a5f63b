-- Bytes are read in one way.
use Rattle.std.specs.Prelude.{ℕ, zero, suc, ◌*◌, ◌/◌, ◌%◌, ◌≡◌, ◌<◌, ◌≤◌, refl, List, [], ◌∷◌, ◌++◌, length, get_or}
use Rattle.std.specs.Prelude.{All}
use Rattle.std.proofs.Common.{sym, ◌∙◌, ap, subst, arith, append_assoc, length-append}
use Rattle.std.proofs.lemmas.List.Elements.{All-head, All-tail}
use Rattle.ckd_track.specs.Track.{TrackFormat}
use Rattle.ckd_volume.specs.Volume.{VolumeFormat}
use Rattle.ckd_image.specs.Image.{track_bytes, tracks_bytes, cylinders_total, two_bytes, four_bytes, image_of, head_of}
use Rattle.ckd_image.specs.Reading
use Rattle.ckd_image.specs.Reading.{IsHeader, IsSpelled, IsGood, Begins, IsImage, IsFault, IsReading, IsReadable}
use Rattle.ckd_image.specs.Reading.{IsCutTrack, HasNoHeader, EndsInTrack, EndsInTotal, HasBadTrack, HasBadTotal}
use Rattle.ckd_image.specs.Reading.{HasMore, all_tracks, end_of, magic}
use Rattle.ckd_image.specs.declared.header.Version.{Version}
use Rattle.ckd_image.specs.declared.header.Version.TheVariants.{One, Two}
use Rattle.ckd_image.proofs.Volumes.{all_bytes}
use Rattle.ckd_image.proofs.Unique.{Same, same_front, same_back, one_track}

-- What a readable volume is written as is an image of it.
pub image_written : (v : VolumeFormat) → IsReadable v → IsImage (image_of v) v
image_written v r =
    record {
      version = Two;
      heads = r.heads;
      begins = record {
        header = head_of v;
        headed = record { spelled = refl; long = r.long; serial = r.serial; some = r.some; few = r.few };
        good = r.good;
        whole = ap (λ l. head_of v ++ (l ++ four_bytes (cylinders_total v.cylinders))) (all_bytes v.cylinders);
      };
    }

few_cylinders : (version : Version) (n : ℕ) → n ≤ Reading.most_cylinders version → n ≤ 808
few_cylinders One n le = omega (arith, le)
few_cylinders Two n le = le

-- An image is of a readable volume.
pub image_readable : (bytes : List ℕ) (v : VolumeFormat) → IsImage bytes v → IsReadable v
image_readable bytes v i =
    record {
      long = i.begins.headed.long;
      serial = i.begins.headed.serial;
      some = i.begins.headed.some;
      few = few_cylinders i.version (length v.cylinders) i.begins.headed.few;
      heads = i.heads;
      good = i.begins.good;
    }

four_long : (version : Version) → length (magic version) ≡ 4
four_long One = refl
four_long Two = refl

-- A header has twelve bytes.
pub header_long : (header : List ℕ) (version : Version) (volser : List ℕ) (n : ℕ) → IsHeader header version volser n
    → length header ≡ 12
header_long header version volser n h =
    ap length h.spelled ∙ omega (
      arith,
      length-append (magic version) (volser ++ two_bytes n),
      length-append volser (two_bytes n),
      four_long version,
      h.long,
    )

-- bytes after which a good track cannot be, unless there are so many already
pub record Stops (n : ℕ) (tracks : List TrackFormat) (rest : List ℕ) : Type 0 where
  pub within : length tracks ≤ n
  pub last : length tracks < n → (t : TrackFormat) (z : List ℕ) → IsGood t → rest ≡ track_bytes t ++ z → ⊥

stops_tail : (n : ℕ) (t : TrackFormat) (ts : List TrackFormat) (x : List ℕ) → Stops (suc n) (t ∷ ts) x → Stops n ts x
stops_tail n t ts x s = record { within = omega (arith, s.within); last = λ lt. s.last (omega (arith, lt)) }

same_tracks : (n : ℕ) (ts us : List TrackFormat) (x y : List ℕ) → All IsGood ts → All IsGood us → Stops n ts x
    → Stops n us y
    → tracks_bytes ts ++ x ≡ tracks_bytes us ++ y → Same ts us x y
same_tracks n [] [] x y ht hu st su e = record { this = refl; rest = e }
same_tracks n [] (u ∷ us) x y ht hu st su e =
    absurd (st.last (omega (arith, su.within)) u (tracks_bytes us ++ y) (All-head IsGood u us hu) (e
    ∙ append_assoc (track_bytes u) (tracks_bytes us) y))
same_tracks n (t ∷ ts) [] x y ht hu st su e =
    absurd (su.last (omega (arith, st.within)) t (tracks_bytes ts ++ x) (All-head IsGood t ts ht) (sym e
    ∙ append_assoc (track_bytes t) (tracks_bytes ts) x))
same_tracks zero (t ∷ ts) (u ∷ us) x y ht hu st su e = absurd (omega (arith, st.within))
same_tracks (suc n) (t ∷ ts) (u ∷ us) x y ht hu st su e =
    let first = one_track t u (tracks_bytes ts ++ x) (tracks_bytes us ++ y) (All-head IsGood t ts ht).spelled
    (All-head IsGood u us hu).spelled
    (sym (append_assoc (track_bytes t) (tracks_bytes ts) x) ∙ e ∙ append_assoc (track_bytes u) (tracks_bytes us) y) in
    let others = same_tracks n ts us x y (All-tail IsGood t ts ht) (All-tail IsGood u us hu) (stops_tail n t ts x st)
    (stops_tail n u us y su) first.rest in
    record { this = ap (λ z. z ∷ ts) first.this ∙ ap (λ z. u ∷ z) others.this; rest = others.rest }

-- what was found before the judgement
pub record Found (bytes : List ℕ) : Type 0 where
  pub version : Version
  pub volser : List ℕ
  pub count : ℕ
  pub tracks : List TrackFormat
  pub rest : List ℕ
  pub begins : Begins bytes version volser count tracks rest
  pub stops : Stops (19 * count) tracks rest

pub record Alike {bytes : List ℕ} (f g : Found bytes) : Type 0 where
  pub version : f.version ≡ g.version
  pub volser : f.volser ≡ g.volser
  pub count : f.count ≡ g.count
  pub tracks : f.tracks ≡ g.tracks
  pub rest : f.rest ≡ g.rest

same_version : (a b : Version) → magic a ≡ magic b → a ≡ b
same_version One One e = refl
same_version One Two e = absurd (omega (arith, ap (λ x. get_or x 3 0) e))
same_version Two One e = absurd (omega (arith, ap (λ x. get_or x 3 0) e))
same_version Two Two e = refl

-- Two ways in which bytes are an image agree.
pub alike : (bytes : List ℕ) (f g : Found bytes) → Alike f g
alike bytes f g =
    let whole = sym f.begins.whole ∙ g.begins.whole in
    let long : length f.begins.header ≡ length g.begins.header =
    header_long f.begins.header f.version f.volser f.count f.begins.headed
    ∙ sym (header_long g.begins.header g.version g.volser g.count g.begins.headed) in
    let fr = tracks_bytes f.tracks ++ f.rest in
    let gr = tracks_bytes g.tracks ++ g.rest in
    let header : f.begins.header ≡ g.begins.header = same_front f.begins.header g.begins.header fr gr long whole in
    let behind : fr ≡ gr = same_back f.begins.header g.begins.header fr gr long whole in
    let spelled : magic f.version ++ (f.volser ++ two_bytes f.count) ≡ magic g.version ++
    (g.volser ++ two_bytes g.count) = sym f.begins.headed.spelled ∙ header ∙ g.begins.headed.spelled in
    let fours : length (magic f.version) ≡ length (magic g.version) = four_long f.version ∙ sym (four_long g.version) in
    let version = same_version f.version g.version (same_front (magic f.version) (magic g.version)
    (f.volser ++ two_bytes f.count) (g.volser ++ two_bytes g.count) fours spelled) in
    let names : f.volser ++ two_bytes f.count ≡ g.volser ++ two_bytes g.count = same_back (magic f.version)
    (magic g.version) (f.volser ++ two_bytes f.count) (g.volser ++ two_bytes g.count) fours spelled in
    let sixes : length f.volser ≡ length g.volser = f.begins.headed.long ∙ sym g.begins.headed.long in
    let counts : two_bytes f.count ≡ two_bytes g.count = same_back f.volser g.volser (two_bytes f.count)
    (two_bytes g.count) sixes names in
    let high : f.count / 256 ≡ g.count / 256 = ap (λ l. get_or l 0 0) counts in
    let low : f.count % 256 ≡ g.count % 256 = ap (λ l. get_or l 1 0) counts in
    let count : f.count ≡ g.count = omega (arith, high, low) in
    let both = same_tracks (19 * g.count) f.tracks g.tracks f.rest g.rest f.begins.good g.begins.good
    (subst (λ n. Stops (19 * n) f.tracks f.rest) count f.stops) g.stops behind in
    record {
      version = version;
      volser = same_front f.volser g.volser (two_bytes f.count)
          (two_bytes g.count) sixes names;
      count = count;
      tracks = both.this;
      rest = both.rest;
    }
