-- Bytes are those of one list of lines.
use Rattle.saved_bytes.specs.Codes.{bytes, IsCode}
use Rattle.saved_bytes.proofs.Codes.{bytes_code, each_code}
use Rattle.cp_console.specs.Saved.{printed_bytes}

-- The bytes of printed lines are a code: they are read back, whatever follows them.
pub printed_code : IsCode printed_bytes
printed_code = each_code bytes bytes_code
