use Rattle.std.proofs.Common.{◌≡◌, ◌/◌, ◌<◌, ap, arith, length, refl, sym, ◌∙◌, Some}
use Rattle.std.proofs.lemmas.List.{get_or_read}
use Rattle.cp_frames.specs.Layout.{frame_of}
use Rattle.cp_frames.proofs.Layouts.{frame_found}
use Rattle.cp_frames.proofs.Tables.{frame_none, tells}
use Rattle.cp_frames.proofs.Inside.{bytes_in, look_place, looked_at}
use Rattle.cp_frames.proofs.pool.Frames.place_at.Goals as goal

pub index-entry-requires : goal.index-entry-requires
index-entry-requires c =
    let f = c.self.inside in
    let inside : c.args.start < length (bytes_in f c.args.user) = rw (← c.self.view_is) at c.requires in
    let at = look_place f c.args.user c.args.start c.self.invariant inside in
    omega (arith, at.room, f.lookup.ok.0, c.entry_of.ensures)

pub returns-then-entry-eq-ABSENT : goal.returns-then-entry-eq-ABSENT
returns-then-entry-eq-ABSENT c =
    let f = c.self.inside in
    let start = c.args.start in
    let kept = c.self.invariant in
    let inside : start < length (bytes_in f c.args.user) = rw (← c.self.view_is) at c.requires in
    let at = look_place f c.args.user start kept inside in
    let read = get_or_read f.lookup.items _ _ at.room (rw c.entry_of.ensures at c.index-entry.ensures) 0 in
    let reported = looked_at f c.args.user start c.index-entry.result.now kept inside read in
    let none = frame_none (frame_of f.owners.items c.args.user (start / 4096)) c.index-entry.result.now (start / 4096)
    reported c.if-entry-eq-ABSENT.true in
    rw (← c.self.view_is) (record { there = tt; offset = tt; within = tt; few = kept.ordered.frames; none = none })

pub returns-else-entry-eq-ABSENT : goal.returns-else-entry-eq-ABSENT
returns-else-entry-eq-ABSENT c =
    let f = c.self.inside in
    let start = c.args.start in
    let kept = c.self.invariant in
    let inside : start < length (bytes_in f c.args.user) = rw (← c.self.view_is) at c.requires in
    let at = look_place f c.args.user start kept inside in
    let read = get_or_read f.lookup.items _ _ at.room (rw c.entry_of.ensures at c.index-entry.ensures) 0 in
    let reported = looked_at f c.args.user start c.index-entry.result.now kept inside read in
    let found = tells f.owners.items c.args.user (start / 4096) c.index-entry.result.now
    (frame_of f.owners.items c.args.user (start / 4096)) refl kept.looked.few reported c.if-entry-eq-ABSENT.false in
    let place = c.place_in.ensures found.frame found.low (omega (arith, at.of_page)) found.reported in
    let frame : c.place_in.result / 4096 ≡ found.frame = omega (arith, place) in
    let within = (frame_found f.owners.items c.args.user (start / 4096) found.frame found.there).within in
    rw (← c.self.view_is) (record {
      there = found.there ∙ ap Some (sym frame);
      offset = omega (arith, place);
      within = rw frame within;
      few = kept.ordered.frames;
      none = tt;
    })
