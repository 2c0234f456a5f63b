use Rattle.std.proofs.Common.{sym}
use Rattle.cp_frames.proofs.Layouts.{frame_of-brought}
use Rattle.cp_frames.proofs.pool.Frames.bring.Goals as goal

pub returns-clause-there : goal.returns-clause-there
returns-clause-there c =
    let within = rw c.next_turn.ensures.unchanged at c.frame_in_turn-frame.ensures.within in
    rw (c.record_page_in.ensures.supply, c.in-Ok.ensures.put.owners, c.next_turn.ensures.unchanged)
    (frame_of-brought c.args.self.now.supply.owners c.args.user c.args.page.0 c.frame_in_turn-frame.result
    (sym c.in-None.ensures.frame) within)
