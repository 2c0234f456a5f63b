use Rattle.std.proofs.Common.{◌≡◌, ◌+◌, ◌-◌, ◌*◌, ◌^◌, ◌<◌}
use Rattle.s370_bytes.specs.Decimal.{rebased, is_decimal}
use Rattle.s370_bytes.proofs.decimal.decimal_value.Given as goal

abbrev pub invariant-loop-k : goal.invariant-loop-k
invariant-loop-k l = record {
  digits : is_decimal 15 l.digits ≡ is_decimal (15 - l._k) l.rest;
  number : l.value + l.scale * rebased 10 16 (15 - l._k) l.rest ≡ rebased 10 16 15 l.digits;
  scaled : l.scale ≡ 10 ^ l._k;
  below : l.value < l.scale;
}
