use Rattle.std.proofs.Common.{◌≡◌, ◌<◌, ◌^◌, drop}
use Rattle.std.specs.Option.{option_and_then}
use Rattle.text_words.specs.Numbers.{number_from}
use Rattle.cp_console.specs.Operands.{file_of, in_64_bits}
use Rattle.cp_console.proofs.operands.file_of.Given as goal

-- what is left is read after the number so far
abbrev pub invariant-loop-digit : goal.invariant-loop-digit
invariant-loop-digit l = record {
  so_far : file_of l.word ≡ option_and_then in_64_bits (number_from l.number (drop l.digit-index l.word));
  small : l.number < 2 ^ 64;
}
