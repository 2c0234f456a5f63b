-- Bytes are those of one queue and one line.
use Rattle.std.specs.Prelude.{ℕ, ◌≡◌, refl, List}
use Rattle.saved_bytes.specs.Codes.{each, number, both, IsCode}
use Rattle.saved_bytes.proofs.Codes.{each_code, number_code, both_code, of_parts, one_value}
use Rattle.cp_dispatch.specs.Policy.{Lines}
use Rattle.cp_dispatch.specs.declared.program.Program.{Program}
use Rattle.cp_dispatch.specs.Saved.{program_bytes, lines_bytes, IsOneBySaved}

pub program_code : IsCode program_bytes
program_code =
    of_parts (both number number) (both_code number number number_code number_code)
    (λ (p : Program). (p.user, p.device)) (λ p. record { user = p.0; device = p.1 }) (λ p. refl)

-- The bytes of the lines of users are a code: they are read back, whatever follows them.
pub lines_code : IsCode lines_bytes
lines_code =
    of_parts (both (each number) (both (each program_bytes) number))
    (both_code (each number) (both (each program_bytes) number) (each_code number number_code)
    (both_code (each program_bytes) number (each_code program_bytes program_code) number_code))
    (λ (l : Lines). (l.users, (l.programs, l.most_users))) (λ p. record {
      users = p.0;
      programs = p.1.0;
      most_users = p.1.1;
    }) (λ l. refl)

-- A restored dispatcher is the saved one.
pub one_policy : IsOneBySaved
one_policy = one_value lines_bytes lines_code
