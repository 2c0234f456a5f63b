use Rattle.std.proofs.Common.{arith}
use Rattle.s370_bytes.specs.Digits.{laid_out}
use Rattle.s370_bytes.proofs.FromRight.{string_is}
use Rattle.s370_bytes.proofs.digits.lay_out.Goals as goal

pub returns : goal.returns
returns c =
    string_is c.loop-k.made (laid_out c.args.layout c.args.target.now c.args.source.now) _ c.loop-k.invariant.size
    (λ j s. c.loop-k.invariant.each j (omega arith))
