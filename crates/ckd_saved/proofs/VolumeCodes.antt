-- Bytes are those of one volume.
use Rattle.std.specs.Prelude.{ℕ, refl, List, length}
use Rattle.saved_bytes.specs.Codes.{both, bytes, each, number, IsCode}
use Rattle.saved_bytes.proofs.Codes.{both_code, bytes_code, each_code, number_code, of_parts, one_value}
use Rattle.ckd_track.specs.Track.{Record, TrackFormat}
use Rattle.ckd_volume.specs.Volume.{VolumeFormat}
use Rattle.ckd_saved.specs.Saved.{record_bytes, track_bytes, cylinder_bytes, volume_bytes, IsOneBySaved}

pub record_code : IsCode record_bytes
record_code =
    of_parts (both bytes (both bytes bytes)) (both_code bytes (both bytes bytes) bytes_code
    (both_code bytes bytes bytes_code bytes_code))
    (λ (r : Record). (r.id, (r.key, r.content))) (λ p. record { id = p.0; key = p.1.0; content = p.1.1 }) (λ r. refl)

pub track_code : IsCode track_bytes
track_code =
    of_parts (both bytes (each record_bytes)) (both_code bytes (each record_bytes) bytes_code
    (each_code record_bytes record_code))
    (λ (t : TrackFormat). (t.home, t.records)) (λ p. record { home = p.0; records = p.1 }) (λ t. refl)

pub cylinder_code : IsCode cylinder_bytes
cylinder_code = each_code track_bytes track_code

-- The bytes of a volume are a code: it is read back, whatever follows it.
pub volume_code : IsCode volume_bytes
volume_code =
    let cylinders = each_code cylinder_bytes cylinder_code in
    let counted = both_code number (each cylinder_bytes) number_code cylinders in
    of_parts (both bytes (both number (each cylinder_bytes)))
    (both_code bytes (both number (each cylinder_bytes)) bytes_code counted)
    (λ (v : VolumeFormat). (v.volser, (length v.cylinders, v.cylinders)))
    (λ p. record { volser = p.0; cylinders = p.1.1 }) (λ v. refl)

-- A restored volume is the saved one.
pub one_volume : IsOneBySaved
one_volume = one_value volume_bytes volume_code
