use Rattle.std.proofs.Common.{◌≡◌, map, take}
use Rattle.unit_record.specs.Console.{typed_byte}
use Rattle.unit_record.proofs.console.typed.Given as goal

abbrev pub invariant-loop-character : goal.invariant-loop-character
invariant-loop-character l = l.bytes ≡ map typed_byte (take l.character-index l.text)
