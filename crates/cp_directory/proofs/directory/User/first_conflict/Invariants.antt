use Rattle.std.proofs.Common.{◌≡◌, drop}
use Rattle.cp_directory.specs.Users.{first_conflict}
use Rattle.cp_directory.proofs.directory.User.first_conflict.Given as goal

-- none before this one conflicts
abbrev pub invariant-loop-disk : goal.invariant-loop-disk
invariant-loop-disk l = first_conflict l.extent l.self.minidisks ≡ first_conflict l.extent
    (drop l.disk-index l.self.minidisks)
