use Rattle.std.proofs.Common.{◌≡◌, ◌≤◌, drop, min}
use Rattle.cp_directory.specs.Sizes.{number}
use Rattle.cp_directory.proofs.spelling.capped_number.Given as goal

-- the digits that are left make the capped number as they make the whole one
abbrev pub invariant-loop-digit : goal.invariant-loop-digit
invariant-loop-digit l = record {
  so_far : min 9999 (number 0 l.digits) ≡ min 9999 (number l.number (drop l.digit-index l.digits));
  small : l.number ≤ 9999;
}
