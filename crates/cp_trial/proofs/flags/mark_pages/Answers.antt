use Rattle.cp_trial.proofs.Flagging.{flagged_all, flagged_more, none_flagged}
use Rattle.cp_trial.proofs.flags.mark_pages.Goals as goal

pub loop-page-init : goal.loop-page-init
loop-page-init c = none_flagged (λ page. page.0) c.args.wanted.now.items

pub loop-page-preserved : goal.loop-page-preserved
loop-page-preserved c =
    flagged_more (λ page. page.0) c.args.pages.now c.loop-page.page-index _ c.args.wanted.now.items
    c.loop-page.wanted.items c.mark.new.wanted.items c.loop-page-test.true c.loop-page.invariant
    (record {
      size = c.mark.ensures.size;
      stays = c.mark.ensures.stays;
      marked = c.mark.ensures.marked;
      only = c.mark.ensures.only;
    })

pub returns : goal.returns
returns c = flagged_all (λ page. page.0) c.args.pages.now c.loop-page.page-index c.args.wanted.now.items
    c.loop-page.wanted.items c.loop-page-test.false c.loop-page.invariant
