use Rattle.std.proofs.Common.{◌≡◌, ◌<◌, rules, arith}
use Rattle.std.proofs.lemmas.Bool.Decides.{nat_tests}
use Rattle.s370_bytes.specs.Strings.{number}
use Rattle.s370_bytes.proofs.Places.{number_zero, number_some}
use Rattle.s370_bytes.proofs.combine.is_zero.Goals as goal

pub returns-then-byte-ne0 : goal.returns-then-byte-ne0
returns-then-byte-ne0 c =
    let h : 0 < number c.args.bytes.now = number_some c.args.bytes.now c.loop-byte.byte-index (search rules)
    (search rules) in
    grind (arith, nat_tests)

pub returns : goal.returns
returns c =
    let h : number c.args.bytes.now ≡ 0 = number_zero c.args.bytes.now (λ j s. c.loop-byte.invariant j (omega arith)) in
    grind (arith, nat_tests)
