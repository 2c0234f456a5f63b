use Rattle.std.proofs.Common.{arith, ap, length, ◌∙◌}
use Rattle.ckd_track.proofs.Laying.{id_here, key_here, content_here, key_long, content_long, short_content}
use Rattle.ckd_track.proofs.entry.part.Goals as goal

pub returns-clause-id : goal.returns-clause-id
returns-clause-id c = id_here c.args.entries.now c.args.area.now c.args.i c.requires.within

pub returns-clause-key : goal.returns-clause-key
returns-clause-key c =
    key_here c.args.entries.now c.args.area.now c.args.i c.span_of-span.result.start c.span_of-span.result.middle
    c.requires.within c.span_of-span.ensures.start c.span_of-span.ensures.middle

pub returns-clause-content : goal.returns-clause-content
returns-clause-content c =
    content_here c.args.entries.now c.args.area.now c.args.i c.span_of-span.result.start c.span_of-span.result.middle
    c.span_of-span.result.end c.requires.within c.span_of-span.ensures.start c.span_of-span.ensures.middle
    c.span_of-span.ensures.end

pub returns-clause-short_key : goal.returns-clause-short_key
returns-clause-short_key c =
    omega (
      arith,
      ap length (key_here c.args.entries.now c.args.area.now c.args.i c.span_of-span.result.start
          c.span_of-span.result.middle c.requires.within c.span_of-span.ensures.start c.span_of-span.ensures.middle)
          ∙ key_long c.args.entries.now c.args.area.now c.args.i c.requires.whole c.requires.within,
      c.span_of-span.ensures.short_key,
      c.span_of-span.ensures.middle,
    )

pub returns-clause-short : goal.returns-clause-short
returns-clause-short c =
    omega (
      arith,
      ap length (key_here c.args.entries.now c.args.area.now c.args.i c.span_of-span.result.start
          c.span_of-span.result.middle c.requires.within c.span_of-span.ensures.start c.span_of-span.ensures.middle)
          ∙ key_long c.args.entries.now c.args.area.now c.args.i c.requires.whole c.requires.within,
      ap length (content_here c.args.entries.now c.args.area.now c.args.i c.span_of-span.result.start
          c.span_of-span.result.middle c.span_of-span.result.end c.requires.within c.span_of-span.ensures.start
          c.span_of-span.ensures.middle c.span_of-span.ensures.end)
          ∙ content_long c.args.entries.now c.args.area.now c.args.i c.requires.whole c.requires.within,
      short_content c.args.entries.now c.args.i c.requires.fits c.requires.within,
    )
