-- Bytes are those of one minidisk.
use Rattle.std.specs.Prelude.{ℕ, refl, List}
use Rattle.saved_bytes.specs.Codes.{both, flag, number, IsCode}
use Rattle.saved_bytes.proofs.Codes.{both_code, flag_code, number_code, of_parts}
use Rattle.ckd_volume.specs.declared.parts.Sense.{Sense}
use Rattle.cp_minidisk.specs.Extent.{ExtentValue}
use Rattle.cp_minidisk.specs.Minidisk.{MinidiskValue}
use Rattle.cp_minidisk.specs.Saved.{extent_bytes, sense_bytes, minidisk_bytes}

pub extent_code : IsCode extent_bytes
extent_code =
    of_parts (both number (both number flag)) (both_code number (both number flag) number_code
    (both_code number flag number_code flag_code))
    (λ (e : ExtentValue). (e.start, (e.count, e.writable))) (λ p. record {
      start = p.0;
      count = p.1.0;
      writable = p.1.1;
    }) (λ e. refl)

pub sense_code : IsCode sense_bytes
sense_code =
    of_parts (both number number) (both_code number number number_code number_code)
    (λ (s : Sense). (s.first, s.second)) (λ p. record { first = p.0; second = p.1 }) (λ s. refl)

-- The bytes of a minidisk are a code: it is read back, whatever follows it.
pub minidisk_code : IsCode minidisk_bytes
minidisk_code =
    let head = both_code number sense_bytes number_code sense_code in
    let arm = both_code number (both number sense_bytes) number_code head in
    of_parts (both extent_bytes (both number (both number sense_bytes)))
    (both_code extent_bytes (both number (both number sense_bytes)) extent_code arm)
    (λ (m : MinidiskValue). (m.extent, (m.cylinder, (m.head, m.sense))))
    (λ p. record { extent = p.0; cylinder = p.1.0; head = p.1.1.0; sense = p.1.1.1 })
    (λ m. refl)
