use Rattle.std.proofs.Common.{◌≡◌, map, string_bytes, take}
use Rattle.std.specs.Str.Lossy.{utf8_lossy}
use Rattle.vm370.proofs.boot_faults.names_of.Given as goal

abbrev pub invariant-loop-user : goal.invariant-loop-user
invariant-loop-user l = map string_bytes l.names.items ≡ map (λ user. utf8_lossy user.name) (take l.user-index l.users)
