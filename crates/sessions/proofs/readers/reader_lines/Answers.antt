use Rattle.sessions.proofs.Queuing.{readers_more}
use Rattle.sessions.proofs.readers.reader_lines.Goals as goal

pub loop-number-preserved : goal.loop-number-preserved
loop-number-preserved g c =
    readers_more (g.I.Installation.goes.seen c.args.installation.now) c.new-user.result c.loop-number.number
    c.loop-number.text.items c.append_decks.new.out.items c.new-user.ensures c.loop-number.invariant
    c.in_ok-append_decks.ensures
