-- Bytes are those of one minidisk.
use Rattle.std.specs.Prelude.{ℕ, refl, List}
use Rattle.saved_bytes.specs.Codes.{both, number, IsCode}
use Rattle.saved_bytes.proofs.Codes.{both_code, number_code, of_parts}
use Rattle.cp_minidisk.specs.Saved.{minidisk_bytes}
use Rattle.cp_minidisk.proofs.MinidiskCodes.{minidisk_code}
use Rattle.cp_volumes.specs.Shared.{SharedMinidisk}
use Rattle.cp_volumes.specs.Saved.{disk_bytes}

-- The bytes of a shared disk are a code: it is read back, whatever follows it.
pub disk_code : IsCode disk_bytes
disk_code =
    let there = both_code number minidisk_bytes number_code minidisk_code in
    of_parts (both number (both number minidisk_bytes))
    (both_code number (both number minidisk_bytes) number_code there)
    (λ (d : SharedMinidisk). (d.address, (d.volume, d.minidisk)))
    (λ p. record { address = p.0; volume = p.1.0; minidisk = p.1.1 })
    (λ d. refl)
