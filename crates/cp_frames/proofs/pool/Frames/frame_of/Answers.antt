use Rattle.std.proofs.Common.{◌*◌, ◌<◌, arith, length, refl, sym, ◌∙◌}
use Rattle.std.proofs.lemmas.List.{get_or_read}
use Rattle.cp_frames.specs.Layout.{frame_of}
use Rattle.cp_frames.proofs.Layouts.{absent-zero, frame_found}
use Rattle.cp_frames.proofs.Halves.{from_none, frame_apart}
use Rattle.cp_frames.proofs.Tables.{frame_none, tells}
use Rattle.cp_frames.proofs.Inside.{bytes_in, places_in, owners_in, look_place_of_page}
use Rattle.cp_frames.proofs.pool.Frames.frame_of.Goals as goal

pub index-entry-requires : goal.index-entry-requires
index-entry-requires c =
    let f = c.self.inside in
    let inside : c.args.page.0 * 4096 < length (bytes_in f c.args.user) = rw (← c.self.view_is) at c.requires in
    let at = look_place_of_page f c.args.user c.args.page.0 c.self.invariant inside in
    omega (arith, at.room, f.lookup.ok.0, c.entry_of.ensures)

pub frame_in-requires : goal.frame_in-requires
frame_in-requires c =
    let f = c.self.inside in
    let inside : c.args.page.0 * 4096 < length (bytes_in f c.args.user) = rw (← c.self.view_is) at c.requires in
    (look_place_of_page f c.args.user c.args.page.0 c.self.invariant inside).of_page

pub returns-then-entry-eq-ABSENT : goal.returns-then-entry-eq-ABSENT
returns-then-entry-eq-ABSENT c =
    let f = c.self.inside in
    let user = c.args.user in
    let page = c.args.page.0 in
    let kept = c.self.invariant in
    let inside : page * 4096 < length (bytes_in f user) = rw (← c.self.view_is) at c.requires in
    let at = look_place_of_page f user page kept inside in
    let read = get_or_read f.lookup.items _ _ at.room (rw c.entry_of.ensures at c.index-entry.ensures) 0 in
    let reported = read ∙ kept.looked.agrees user page at.of_user at.of_page in
    let none = frame_none (frame_of f.owners.items user page) c.index-entry.result.now page reported
    c.if-entry-eq-ABSENT.true in
    rw (← c.self.view_is) (record {
      frame = sym none;
      within = tt;
      apart = λ some. cc;
      zero = λ no_slot. absent-zero (places_in f) (owners_in f) f.sizes.items user page
          (from_none f.owners.items f.slot_owners.items user page kept.whole.once none no_slot);
    })

pub returns-else-entry-eq-ABSENT : goal.returns-else-entry-eq-ABSENT
returns-else-entry-eq-ABSENT c =
    let f = c.self.inside in
    let user = c.args.user in
    let page = c.args.page.0 in
    let kept = c.self.invariant in
    let inside : page * 4096 < length (bytes_in f user) = rw (← c.self.view_is) at c.requires in
    let at = look_place_of_page f user page kept inside in
    let read = get_or_read f.lookup.items _ _ at.room (rw c.entry_of.ensures at c.index-entry.ensures) 0 in
    let reported = read ∙ kept.looked.agrees user page at.of_user at.of_page in
    let found = tells f.owners.items user page c.index-entry.result.now (frame_of f.owners.items user page) refl
    kept.looked.few reported c.if-entry-eq-ABSENT.false in
    let frame = c.frame_in.ensures found.frame found.low found.reported in
    rw (← c.self.view_is, frame) (record {
      frame = sym found.there;
      within = (frame_found f.owners.items user page found.frame found.there).within;
      apart = λ some. frame_apart f.owners.items f.slot_owners.items user page found.frame kept.whole.once found.there;
      zero = tt;
    })

pub overflow_cast-result : goal.overflow_cast-result
overflow_cast-result c =
    let f = c.self.inside in
    let user = c.args.user in
    let page = c.args.page.0 in
    let kept = c.self.invariant in
    let inside : page * 4096 < length (bytes_in f user) = rw (← c.self.view_is) at c.requires in
    let at = look_place_of_page f user page kept inside in
    let read = get_or_read f.lookup.items _ _ at.room (rw c.entry_of.ensures at c.index-entry.ensures) 0 in
    let reported = read ∙ kept.looked.agrees user page at.of_user at.of_page in
    let found = tells f.owners.items user page c.index-entry.result.now (frame_of f.owners.items user page) refl
    kept.looked.few reported c.if-entry-eq-ABSENT.false in
    let frame = c.frame_in.ensures found.frame found.low found.reported in
    let low = found.low in
    omega (arith, frame, low)
