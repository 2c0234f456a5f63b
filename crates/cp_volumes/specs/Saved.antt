-- The bytes of users' minidisks in a saved state. Where they are is among them so that bytes are
-- those of one minidisk.
use Rattle.std.specs.Prelude.{ℕ, List, ◌++◌}
use Rattle.saved_bytes.specs.Codes.{number}
use Rattle.cp_minidisk.specs.Saved.{minidisk_bytes}
use Rattle.cp_volumes.specs.Shared.{SharedMinidisk}

-- the bytes of a minidisk: its address, its volume, and what it has of its own
abbrev pub disk_bytes : SharedMinidisk → List ℕ
disk_bytes d = number d.address ++ (number d.volume ++ minidisk_bytes d.minidisk)
