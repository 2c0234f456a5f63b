use Rattle.std.proofs.Common.{◌*◌, ◌<◌, ◌≤◌, arith}
use Rattle.std.proofs.lemmas.Bool.Decides.{nat_tests}
use Rattle.cp_needs.proofs.Meeting.{some_first, touched, untouched, none_first}
use Rattle.cp_needs.proofs.fixed.touches.Goals as goal

pub returns-in-Some-clause-some : goal.returns-in-Some-clause-some
returns-in-Some-clause-some c = λ yes.
    let before : c.in-Some.number * 4 < c.end_of-past.result = grind (arith, nat_tests) in
    touched c.args.text.now c.args.piece c.args.end c.end_of-past.result c.in-Some.number c.end_of-past.ensures.end
    c.end_of-past.ensures.piece (omega (arith, c.if-past-from.false))
    (some_first c.args.text.now _ c.first_from.result c.in-Some.number c.in-Some.is c.first_from.ensures.some) before

pub returns-in-Some-clause-none : goal.returns-in-Some-clause-none
returns-in-Some-clause-none c = λ no a below inside text.
    let after : c.end_of-past.result ≤ c.in-Some.number * 4 = grind (arith, nat_tests) in
    untouched c.args.text.now c.args.piece c.end_of-past.result c.in-Some.number a
    (some_first c.args.text.now _ c.first_from.result c.in-Some.number c.in-Some.is c.first_from.ensures.some) after
    (c.end_of-past.ensures.last a below inside.1) inside text

pub returns-in-None-clause-none : goal.returns-in-None-clause-none
returns-in-None-clause-none c =
    λ no a below inside text.
    none_first c.args.text.now c.args.piece c.first_from.result a c.in-None.is c.first_from.ensures.none inside text
