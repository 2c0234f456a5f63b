use Rattle.std.proofs.Common.{◌≡◌, length, take, map}
use Rattle.cp_console.specs.Lines.{character_of}
use Rattle.cp_console.proofs.lines.ConsoleText.new.Given as goal

abbrev pub invariant-loop-place : goal.invariant-loop-place
invariant-loop-place l = record {
  room : length l.characters ≡ 130;
  so_far : take l.place l.characters ≡ map character_of (take l.place l.taken);
}
