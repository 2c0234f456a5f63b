use Rattle.std.proofs.Common.{◌≡◌, ◌<◌, ◌^◌, drop}
use Rattle.text_words.specs.Numbers.{hexadecimal_from}
use Rattle.text_words.proofs.numbers.hexadecimal_of.Given as goal

abbrev pub invariant-loop-digit : goal.invariant-loop-digit
invariant-loop-digit l = record {
  so_far : hexadecimal_from 0 l.digits ≡ hexadecimal_from l.number (drop l.digit-index l.digits);
  small : l.number < 16 ^ l.digit-index;
}
