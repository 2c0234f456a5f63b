use Rattle.s370_intr.proofs.Instructed.{away_0}
use Rattle.s370_intr.proofs.unit.accept_status.Goals as goal

-- the channel status word was stored in page 0, which is present
pub unreachable-requires : goal.unreachable-requires
unreachable-requires g c = away_0 (g.S.Storage.present c.store_csw.new.storage) c.in-Err-interrupt.field-0.0
    c.in-Ok.ensures.page_0_present c.in-Err-interrupt.ensures.swap.2.away c.in-Err-interrupt.ensures.swap.1
