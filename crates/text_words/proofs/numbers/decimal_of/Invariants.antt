use Rattle.std.proofs.Common.{◌≡◌, ◌<◌, ◌^◌, drop}
use Rattle.text_words.specs.Numbers.{number_from}
use Rattle.text_words.proofs.numbers.decimal_of.Given as goal

abbrev pub invariant-loop-digit : goal.invariant-loop-digit
invariant-loop-digit l = record {
  so_far : number_from 0 l.digits ≡ number_from l.number (drop l.digit-index l.digits);
  small : l.number < 10 ^ l.digit-index;
}
