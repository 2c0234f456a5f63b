use Rattle.std.proofs.Common.{◌≡◌, ◌∙◌, rules, arith, ap}
use Rattle.std.proofs.lemmas.Bool.Decides.{nat_tests}
use Rattle.s370_bytes.specs.Strings.{number}
use Rattle.s370_bytes.proofs.Places.{compared_same, order_is}
use Rattle.s370_bytes.proofs.compare.string_order.Goals as goal

pub returns-then-front-xs : goal.returns-then-front-xs
returns-then-front-xs c =
    let e : number c.args.xs.now ≡ number c.args.ys.now = ap number
    (compared_same c.args.xs.now c.args.ys.now c.requires
    (λ j s. c.equal_front-front.ensures.equal j (omega arith))) in
    grind (arith, nat_tests)

pub returns : goal.returns
returns c =
    c.order_of.ensures ∙ order_is c.args.xs.now c.args.ys.now c.equal_front-front.result c.requires (λ j. search rules)
    (λ j. search rules) c.equal_front-front.ensures.equal (omega arith)
    (c.equal_front-front.ensures.first (omega arith))
