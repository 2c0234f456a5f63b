use Rattle.std.proofs.Common.{◌≡◌, ◌+◌, ◌-◌, ◌*◌, ◌^◌, ◌<◌}
use Rattle.s370_bytes.specs.Decimal.{rebased}
use Rattle.s370_bytes.proofs.decimal.decimal_digits.Given as goal

abbrev pub invariant-loop-k : goal.invariant-loop-k
invariant-loop-k l = record {
  number : l.value + l.scale * rebased 16 10 (15 - l._k) l.rest ≡ rebased 16 10 15 l.number;
  scaled : l.scale ≡ 16 ^ l._k;
  below : l.value < l.scale;
}
