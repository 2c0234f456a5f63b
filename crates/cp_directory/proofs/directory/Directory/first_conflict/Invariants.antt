use Rattle.std.proofs.Common.{◌≡◌, drop}
use Rattle.cp_directory.specs.Users.{first_conflict, minidisks_of}
use Rattle.cp_directory.proofs.directory.Directory.first_conflict.Given as goal

-- no minidisk of the users before this one conflicts
abbrev pub invariant-loop-user : goal.invariant-loop-user
invariant-loop-user l = first_conflict l.extent (minidisks_of l.self) ≡ first_conflict l.extent
    (minidisks_of (drop l.user-index l.self))
