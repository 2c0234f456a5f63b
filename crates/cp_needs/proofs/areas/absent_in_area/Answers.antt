use Rattle.std.proofs.Common.{◌≡◌, ◌∙◌, sym, arith, true}
use Rattle.s370_channel.specs.Guest.{area_block}
use Rattle.s370_walk.specs.Tracks as tracks
use Rattle.cp_needs.proofs.Blocks.{asked_of, begun_on, done_on, done_past, pages_done}
use Rattle.cp_needs.proofs.areas.absent_in_area.Goals as goal

pub returns-in-Err-clause-asked : goal.returns-in-Err-clause-asked
returns-in-Err-clause-asked g c =
    let m = g.S.Storage.memory c.args.storage.now in
    let has : tracks.has_area c.args.word.now ≡ true = sym c.has_area.ensures ∙ c.if-not-has_area.false in
    asked_of m c.args.word.now c.blocks-2.byte _ has (omega (arith, c.blocks-2-test.true, c.blocks-2.invariant.counted))
    (c.blocks-2.invariant.begun c.blocks-2-test.true) c.in-Err.ensures.asked

pub returns-in-Ok-None-clause-present : goal.returns-in-Ok-None-clause-present
returns-in-Ok-None-clause-present g c =
    let m = g.S.Storage.memory c.args.storage.now in
    let has : tracks.has_area c.args.word.now ≡ true = sym c.has_area.ensures ∙ c.if-not-has_area.false in
    let w = c.args.word.now in
    let done = done_past m w (g.S.Storage.present c.args.storage.now) c.blocks-2.byte w.count c.blocks-2.invariant.done
    (c.blocks-2.invariant.begun c.blocks-2-test.true) (sym c.in-Ok-None.ensures.block ∙ c.in-Ok-None.field-0-is)
    c.in-Ok-None.ensures.listed in
    pages_done m w (g.S.Storage.present c.args.storage.now) w.count has done (omega arith)

pub blocks-2-preserved : goal.blocks-2-preserved
blocks-2-preserved g c =
    let m = g.S.Storage.memory c.args.storage.now in
    let w = c.args.word.now in
    let part = c.bytes_in_block-byte.ensures in
    let said = sym c.in-Ok-Some.ensures.block ∙ c.in-Ok-Some.field-0-is in
    let here = rw c.in-Ok-Some.field-0-is at c.in-Ok-Some.ensures.present in
    let begun = c.blocks-2.invariant.begun c.blocks-2-test.true in
    let low = rw c.in-Ok-Some.field-0-is at c.in-Ok-Some.ensures.low in
    record {
      counted = c.blocks-2.invariant.counted;
      within = omega (arith, part.within, c.blocks-2-test.true);
      begun = λ more. begun_on (area_block m w) c.blocks-2.byte c.in-Ok-Some.start c.bytes_in_block-byte.result begun
          said low part.some (part.whole (omega (arith, more)));
      done = done_on m w (g.S.Storage.present c.args.storage.now) c.blocks-2.byte c.in-Ok-Some.start
          c.bytes_in_block-byte.result c.blocks-2.invariant.done begun said low part.block c.in-Ok-Some.ensures.listed
          here;
    }
