use Rattle.std.proofs.Common.{◌≡◌, ◌∙◌, refl, sym, arith, true}
use Rattle.s370_channel.specs.Guest.{area_block}
use Rattle.s370_walk.specs.Tracks as tracks
use Rattle.cp_needs.proofs.Blocks.{asked_of, begun_on}
use Rattle.cp_needs.proofs.Noting.{filled_done, filled_on, filled_past, list_done, list_on, list_past, not_away}
use Rattle.cp_needs.proofs.Paging.{area_done, area_on, area_past}
use Rattle.cp_needs.proofs.notes.note_area.Goals as goal

pub returns-in-Ok-None-clause-marked : goal.returns-in-Ok-None-clause-marked
returns-in-Ok-None-clause-marked g c =
    let m = g.S.Storage.memory c.args.storage.now in
    let w = c.args.word.now in
    let has : tracks.has_area w ≡ true = sym c.has_area.ensures ∙ c.if-not-has_area.false in
    list_past m w c.blocks-2.byte _ _ _ has (omega (arith, c.blocks-2-test.true, c.blocks-2.invariant.counted))
    (c.blocks-2.invariant.begun c.blocks-2-test.true) (sym c.in-Ok-None.ensures.block ∙ c.in-Ok-None.field-0-is)
    c.blocks-2.invariant.marked c.in_ok-note_entry.ensures.marked

pub returns-in-Ok-None-clause-stored : goal.returns-in-Ok-None-clause-stored
returns-in-Ok-None-clause-stored g c =
    let m = g.S.Storage.memory c.args.storage.now in
    let w = c.args.word.now in
    filled_past m w c.blocks-2.byte _ _ (c.blocks-2.invariant.begun c.blocks-2-test.true)
    (sym c.in-Ok-None.ensures.block ∙ c.in-Ok-None.field-0-is) c.blocks-2.invariant.stored

pub returns-in-Ok-None-clause-paged : goal.returns-in-Ok-None-clause-paged
returns-in-Ok-None-clause-paged g c =
    let m = g.S.Storage.memory c.args.storage.now in
    area_past m c.args.word.now c.blocks-2.byte _ _ (c.blocks-2.invariant.begun c.blocks-2-test.true)
    (sym c.in-Ok-None.ensures.block ∙ c.in-Ok-None.field-0-is) c.blocks-2.invariant.paged

pub unreachable-requires : goal.unreachable-requires
unreachable-requires g c =
    let m = g.S.Storage.memory c.args.storage.now in
    let w = c.args.word.now in
    let has : tracks.has_area w ≡ true = sym c.has_area.ensures ∙ c.if-not-has_area.false in
    let page = c.in-Err.field-0.0 in
    let asked = asked_of m w c.blocks-2.byte page has
    (omega (arith, c.blocks-2-test.true, c.blocks-2.invariant.counted))
    (c.blocks-2.invariant.begun c.blocks-2-test.true) c.in-Err.ensures.asked in
    not_away _ (g.S.Storage.present c.args.storage.now) page (c.requires.here page asked) c.in-Err.ensures.absent

pub blocks-2-preserved : goal.blocks-2-preserved
blocks-2-preserved g c =
    let m = g.S.Storage.memory c.args.storage.now in
    let w = c.args.word.now in
    let has : tracks.has_area w ≡ true = sym c.has_area.ensures ∙ c.if-not-has_area.false in
    let part = c.bytes_in_block-bytes.ensures in
    let said = sym c.in-Ok-Some.ensures.block ∙ c.in-Ok-Some.field-0-is in
    let low = rw c.in-Ok-Some.field-0-is at c.in-Ok-Some.ensures.low in
    let begun = c.blocks-2.invariant.begun c.blocks-2-test.true in
    record {
      counted = c.blocks-2.invariant.counted;
      within = omega (arith, part.within, c.blocks-2-test.true);
      begun = λ more. begun_on (area_block m w) c.blocks-2.byte c.in-Ok-Some.start c.bytes_in_block-bytes.result begun
          said low part.some (part.whole (omega (arith, more)));
      marked = list_on m w c.blocks-2.byte c.in-Ok-Some.start c.bytes_in_block-bytes.result _ _ _ has
          (omega (arith, c.blocks-2-test.true, c.blocks-2.invariant.counted)) part.some begun said low part.block
          c.blocks-2.invariant.marked c.in_ok-note_entry.ensures.marked;
      stored = filled_on m w c.blocks-2.byte _ _ _ _ has
          (omega (arith, part.within, c.blocks-2-test.true, c.blocks-2.invariant.counted)) begun said low part.block
          c.blocks-2.invariant.stored c.in_ok-note_piece.ensures.stored;
      paged = area_on m w c.blocks-2.byte c.in-Ok-Some.start c.bytes_in_block-bytes.result _ _ _ _ has
          (omega (arith, part.within, c.blocks-2-test.true, c.blocks-2.invariant.counted)) part.some begun said low
          part.block refl c.blocks-2.invariant.paged c.in_ok-push.ensures.items;
    }

pub returns-clause-marked : goal.returns-clause-marked
returns-clause-marked g c =
    list_done _ c.args.word.now c.blocks-2.byte _ _ (omega (arith, c.blocks-2-test.false, c.blocks-2.invariant.counted))
    c.blocks-2.invariant.marked

pub returns-clause-stored : goal.returns-clause-stored
returns-clause-stored g c =
    filled_done _ c.args.word.now c.blocks-2.byte _ _
    (omega (arith, c.blocks-2-test.false, c.blocks-2.invariant.counted)) c.blocks-2.invariant.stored

pub returns-clause-paged : goal.returns-clause-paged
returns-clause-paged g c =
    area_done _ c.args.word.now c.blocks-2.byte _ _ (omega (arith, c.blocks-2-test.false, c.blocks-2.invariant.counted))
    c.blocks-2.invariant.paged
