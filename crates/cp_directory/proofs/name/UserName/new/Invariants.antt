use Rattle.std.proofs.Common.{◌≡◌, length, take}
use Rattle.cp_directory.proofs.name.UserName.new.Given as goal

-- the characters so far are copied
abbrev pub invariant-loop-i : goal.invariant-loop-i
invariant-loop-i l = record { whole : length l.bytes ≡ 8; copied : take l.i l.bytes ≡ take l.i l.word }
