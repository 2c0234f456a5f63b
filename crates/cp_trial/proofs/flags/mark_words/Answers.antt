use Rattle.std.proofs.Common.{◌/◌}
use Rattle.cp_trial.proofs.Flagging.{flagged_all, flagged_more, none_flagged}
use Rattle.cp_trial.proofs.flags.mark_words.Goals as goal

pub loop-word-init : goal.loop-word-init
loop-word-init c = none_flagged (λ w. w.start / 4096) c.args.wanted.now.items

pub loop-word-preserved : goal.loop-word-preserved
loop-word-preserved c =
    flagged_more (λ w. w.start / 4096) c.args.words.now c.loop-word.word-index _ c.args.wanted.now.items
    c.loop-word.wanted.items c.mark.new.wanted.items c.loop-word-test.true c.loop-word.invariant
    (record {
      size = c.mark.ensures.size;
      stays = c.mark.ensures.stays;
      marked = c.mark.ensures.marked;
      only = c.mark.ensures.only;
    })

pub returns : goal.returns
returns c = flagged_all (λ w. w.start / 4096) c.args.words.now c.loop-word.word-index c.args.wanted.now.items
    c.loop-word.wanted.items c.loop-word-test.false c.loop-word.invariant
