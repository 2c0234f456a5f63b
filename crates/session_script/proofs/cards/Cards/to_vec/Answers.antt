use Rattle.text_words.specs.Lines.{lines_of}
use Rattle.session_script.specs.Cards.{cards_of}
use Rattle.session_script.proofs.Decks.{card_more}
use Rattle.session_script.proofs.cards.Cards.to_vec.Goals as goal

pub loop-left-preserved : goal.loop-left-preserved
loop-left-preserved c =
    let so_far = rw c.cut_line.ensures.lines at c.loop-left.invariant in
    let more = card_more c.loop-left.cards.items (cards_of c.args.self.now)
    (lines_of c.cut_line.result.1.now) c.loop-left.left c.cut_line.result.0.now c.loop-left-test.true so_far in
    rw (c.in_ok-push.ensures.items, c.card_of.ensures) more
