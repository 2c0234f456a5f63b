use Rattle.std.proofs.Common.{◌≡◌, length, map, min, arith, ◌∙◌}
use Rattle.std.proofs.lemmas.List.{length-map}
use Rattle.session_script.specs.Cards.{blank, punched}
use Rattle.session_script.proofs.Decks.{filled, punch_more}
use Rattle.session_script.proofs.punch.card_of.Goals as goal

pub loop-column-preserved : goal.loop-column-preserved
loop-column-preserved c = punch_more c.args.line.now c.loop-column.card 80 c.loop-column.column 0 c.punched.result
    (omega arith) (omega arith) c.loop-column.invariant c.punched.ensures

pub returns : goal.returns
returns c =
    let long : c.loop-column.column ≡ min (length (map punched c.args.line.now)) 80 = rw length-map
    (grind (arith, c.min-end.ensures)) in
    c.loop-column.invariant ∙ filled (map punched c.args.line.now) blank 80 c.loop-column.column long
