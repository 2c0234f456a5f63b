-- Laws of images that are read: a header, the tracks and the end, put together.
use Rattle.std.specs.Prelude.{ℕ, ◌*◌, ◌≡◌, List, ◌++◌, length, take, drop, All, Err}
use Rattle.std.proofs.Common.{sym, ◌∙◌, ap, subst, arith, take-append-drop, take_all, inl, inr}
use Rattle.ckd_track.specs.Track.{TrackFormat}
use Rattle.ckd_volume.specs.Volume.{VolumeFormat}
use Rattle.ckd_image.specs.Image.{track_bytes, tracks_bytes, cylinders_total}
use Rattle.ckd_image.specs.Reading.{IsHeader, IsGood, Begins, IsImage, IsFault, IsReadingOrMemory, all_tracks, end_of}
use Rattle.ckd_image.specs.Parts.{ReadTracks, IsTracksFault, IsEndFault}
use Rattle.ckd_image.specs.declared.header.Version.{Version}
use Rattle.ckd_image.specs.declared.header.Version.TheVariants.{One, Two}
use Rattle.ckd_image.specs.declared.faults.ImageError.{ImageError}
use Rattle.ckd_image.specs.declared.faults.ImageError.TheVariants.{Memory, BadMagic, Truncated, BadTrack, Trailing}
use Rattle.ckd_image.specs.declared.faults.ImageError.TheVariants.{Device, BadTotal}
use Rattle.ckd_image.proofs.Volumes.{all_length, all_total}

-- A fault of an image is what reading it returns.
pub fault_read : (bytes : List ℕ) (f : ImageError) → IsFault bytes f → IsReadingOrMemory bytes (Err f)
fault_read bytes Memory h = absurd h
fault_read bytes BadMagic h = h
fault_read bytes Truncated h = h
fault_read bytes (BadTrack c i) h = h
fault_read bytes Trailing h = h
fault_read bytes (Device k) h = h
fault_read bytes BadTotal h = h

-- a header, and good tracks after it
begun : (bytes : List ℕ) (version : Version) (volser : List ℕ) (n : ℕ) (tracks : List TrackFormat) (rest : List ℕ)
    → IsHeader (take 12 bytes) version volser n → All IsGood tracks → drop 12 bytes ≡ tracks_bytes tracks ++ rest
    → Begins bytes version volser n tracks rest
begun bytes version volser n tracks rest h good e =
    record {
      header = take 12 bytes;
      headed = h;
      good = good;
      whole = sym (take-append-drop 12 bytes)
          ∙ ap (λ x. take 12 bytes ++ x) e;
    }

-- A fault of the tracks is one of the image whose header is good.
pub tracks_fault : (bytes : List ℕ) (version : Version) (volser : List ℕ) (n : ℕ)
    → IsHeader (take 12 bytes) version volser n
    → (f : ImageError) → IsTracksFault n (drop 12 bytes) f → IsFault bytes f
tracks_fault bytes version volser n h Memory t = t.fault_is
tracks_fault bytes version volser n h BadMagic t = absurd t.fault_is
tracks_fault bytes version volser n h Truncated t =
    inr (inl (record {
      version = version;
      volser = volser;
      count = n;
      tracks = t.tracks;
      rest = t.rest;
      begins = begun bytes version volser n t.tracks t.rest h t.good t.whole;
      next = t.next;
      cut = t.fault_is;
    }))
tracks_fault bytes version volser n h (BadTrack c i) t =
    let full = t.fault_is.2 in
    record {
      version = version;
      volser = volser;
      count = n;
      tracks = t.tracks;
      track = full.track;
      rest = full.rest;
      begins = begun bytes version volser n t.tracks (track_bytes full.track ++ full.rest) h t.good (t.whole
          ∙ ap (λ x. tracks_bytes t.tracks ++ x) full.whole);
      cylinders = omega (arith, t.next, t.fault_is.0);
      heads = t.fault_is.1;
      next = t.fault_is.0;
      spelled = full.spelled;
      full = full.full;
    }
tracks_fault bytes version volser n h Trailing t = absurd t.fault_is
tracks_fault bytes version volser n h (Device k) t = t.fault_is
tracks_fault bytes version volser n h BadTotal t = absurd t.fault_is

-- all tracks are read
pub record AreRead (bytes : List ℕ) (version : Version) (v : VolumeFormat) (rest : List ℕ) : Type 0 where
  pub begins : Begins bytes version v.volser (length v.cylinders) (all_tracks v.cylinders) rest
  pub count : length (all_tracks v.cylinders) ≡ 19 * length v.cylinders
  pub heads : All (λ cylinder. length cylinder ≡ 19) v.cylinders

-- A header and all tracks that are read make a volume that is read.
pub all_read : (bytes : List ℕ) (version : Version) (volser : List ℕ) (n : ℕ) (old new : VolumeFormat) (rest : List ℕ)
    → IsHeader (take 12 bytes) version volser n
    → old.volser ≡ volser → length old.cylinders ≡ n → ReadTracks old new (19 * length old.cylinders)
    (drop 12 bytes) rest → AreRead bytes version new rest
all_read bytes version volser n old new rest h same long r =
    let count = all_length new.cylinders r.heads in
    let all : take (19 * length old.cylinders) (all_tracks new.cylinders) ≡ all_tracks new.cylinders = take_all
    (19 * length old.cylinders) (all_tracks new.cylinders) (omega (arith, count, r.cylinders)) in
    let named : volser ≡ new.volser = sym (r.volser ∙ same) in
    let counted : n ≡ length new.cylinders = sym (r.cylinders ∙ long) in
    let header : IsHeader (take 12 bytes) version new.volser (length new.cylinders) =
    subst (λ x. IsHeader (take 12 bytes) version x (length new.cylinders)) named
    (subst (λ x. IsHeader (take 12 bytes) version volser x) counted h) in
    record {
      begins = begun bytes version new.volser (length new.cylinders) (all_tracks new.cylinders) rest header
          (subst (All IsGood) all r.good) (r.whole ∙ ap (λ l. tracks_bytes l ++ rest) all);
      count = count;
      heads = r.heads;
    }

-- A volume that is read, with the right end after it, makes an image of it.
pub image_read : (bytes : List ℕ) (version : Version) (v : VolumeFormat) (rest : List ℕ) → AreRead bytes version v rest
    → rest ≡ end_of version (cylinders_total v.cylinders) → IsImage bytes v
image_read bytes version v rest r e =
    record {
      version = version;
      heads = r.heads;
      begins = subst
          (Begins bytes version v.volser (length v.cylinders) (all_tracks v.cylinders)) e r.begins;
    }

-- A wrong end after all tracks is a fault of the image.
pub end_fault : (bytes : List ℕ) (version : Version) (v : VolumeFormat) (rest : List ℕ) (total : ℕ)
    → AreRead bytes version v rest → total ≡ cylinders_total v.cylinders
    → (f : ImageError) → IsEndFault version total rest f → IsFault bytes f
end_fault bytes version v rest total r e Trailing (behind, some, whole) =
    record {
      version = version;
      volser = v.volser;
      count = length v.cylinders;
      tracks = all_tracks v.cylinders;
      rest = behind;
      begins = subst (Begins bytes version v.volser (length v.cylinders) (all_tracks v.cylinders)) (whole
          ∙ ap (λ n. end_of version n ++ behind) (e ∙ all_total v.cylinders)) r.begins;
      all = r.count;
      some = some;
    }
end_fault bytes Two v rest total r e Truncated short =
    inr (inr (record {
      volser = v.volser;
      count = length v.cylinders;
      tracks = all_tracks v.cylinders;
      rest = rest;
      begins = r.begins;
      all = r.count;
      cut = short;
    }))
end_fault bytes Two v rest total r e BadTotal (other, behind, small, differs, whole) =
    record {
      volser = v.volser;
      count = length v.cylinders;
      tracks = all_tracks v.cylinders;
      total = other;
      rest = behind;
      begins = subst (Begins bytes Two v.volser (length v.cylinders) (all_tracks v.cylinders)) whole r.begins;
      all = r.count;
      small = small;
      other = λ same. differs (same ∙ sym (e ∙ all_total v.cylinders));
    }
end_fault bytes Two v rest total r e Memory h = h
end_fault bytes Two v rest total r e BadMagic h = absurd h
end_fault bytes Two v rest total r e (BadTrack c i) h = absurd h
end_fault bytes Two v rest total r e (Device k) h = h
end_fault bytes One v rest total r e Truncated h = absurd h
end_fault bytes One v rest total r e BadTotal h = absurd h
end_fault bytes One v rest total r e Memory h = h
end_fault bytes One v rest total r e BadMagic h = absurd h
end_fault bytes One v rest total r e (BadTrack c i) h = absurd h
end_fault bytes One v rest total r e (Device k) h = h
