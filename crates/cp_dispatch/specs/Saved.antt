-- Queue and line as bytes.
use Rattle.std.specs.Prelude.{ℕ, ◌≡◌, List, ◌++◌}
use Rattle.saved_bytes.specs.Codes.{each, number}
use Rattle.cp_dispatch.specs.Policy.{Lines}
use Rattle.cp_dispatch.specs.declared.program.Program.{Program}

-- the bytes of a started program in the line
abbrev pub program_bytes : Program → List ℕ
program_bytes p = number p.user ++ number p.device

-- the bytes of the queue and the line
abbrev pub lines_bytes : Lines → List ℕ
lines_bytes l = each number l.users ++ (each program_bytes l.programs ++ number l.most_users)

-- bytes are those of one queue and one line
abbrev pub IsOneBySaved : Type 0
IsOneBySaved = (one other : Lines) → lines_bytes one ≡ lines_bytes other → one ≡ other
