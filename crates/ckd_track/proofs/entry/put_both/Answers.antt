use Rattle.std.proofs.Common.{arith, ap, ◌∙◌, ◌≡◌, ◌-◌, ◌+◌}
use borrow.Rule.Slice.PartMut.{put_mid}
use Rattle.ckd_track.specs.Laid.{records_of, entry_at}
use Rattle.ckd_track.proofs.Laying.{records_both}
use Rattle.ckd_track.proofs.entry.put_both.Goals as goal

pub returns-clause-records : goal.returns-clause-records
returns-clause-records c =
    let long : c.span_of-span.result.end - c.span_of-span.result.start ≡ (entry_at c.args.entries.now c.args.i).key +
    (entry_at c.args.entries.now c.args.i).content = omega
    (arith, c.span_of-span.ensures.middle, c.span_of-span.ensures.end) in
    ap (λ n. records_of c.args.entries.now (put_mid c.span_of-span.result.start n c.args.area.now
    c.copy_from_slice.new.self)) long
    ∙ ap (λ l. records_of c.args.entries.now (put_mid c.span_of-span.result.start
    ((entry_at c.args.entries.now c.args.i).key + (entry_at c.args.entries.now c.args.i).content) c.args.area.now
    l)) c.copy_from_slice.ensures.after
    ∙ records_both c.args.entries.now c.args.area.now c.args.i c.span_of-span.result.start c.args.bytes.now
    c.requires.laid.whole c.requires.within c.span_of-span.ensures.start c.requires.long
