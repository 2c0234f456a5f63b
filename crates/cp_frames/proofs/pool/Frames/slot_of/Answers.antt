use Rattle.std.proofs.Common.{◌≡◌, ◌*◌, ◌<◌, ◌+◌, Some, refl, sym, ◌∙◌, ap, arith, length, get_or}
use Rattle.std.proofs.lemmas.List.{get_or_read}
use Rattle.cp_frames.specs.Layout.{frame_of}
use Rattle.cp_frames.proofs.Layouts.{absent-zero, frame_found}
use Rattle.cp_frames.proofs.Tables.{low_place, slot_none, slot_some}
use Rattle.cp_frames.proofs.Halves.{from_none, slot_apart}
use Rattle.cp_frames.proofs.Inside.{bytes_in, places_in, owners_in, slot_place_of_page}
use Rattle.cp_frames.proofs.pool.Frames.slot_of.Goals as goal

pub index-entry-requires : goal.index-entry-requires
index-entry-requires c =
    let f = c.self.inside in
    let inside : c.args.page.0 * 4096 < length (bytes_in f c.args.user) = rw (← c.self.view_is) at c.requires in
    let at = slot_place_of_page f c.args.user c.args.page.0 c.self.invariant inside in
    omega (arith, at.room, f.slot_table.ok.0, c.entry_of.ensures)

pub returns-then-entry : goal.returns-then-entry
returns-then-entry c =
    let f = c.self.inside in
    let user = c.args.user in
    let page = c.args.page.0 in
    let inside : page * 4096 < length (bytes_in f user) = rw (← c.self.view_is) at c.requires in
    let at = slot_place_of_page f user page c.self.invariant inside in
    let read = get_or_read f.slot_table.items _ _ at.room (rw c.entry_of.ensures at c.index-entry.ensures) 0 in
    let tells = c.self.invariant.slots_tabled.agrees user page at.of_user at.of_page in
    let few = low_place f.slot_owners.items user page (frame_of f.slot_owners.items user page)
    c.self.invariant.slots_tabled.few refl in
    let nowhere = sym (slot_none (frame_of f.slot_owners.items user page)
    (get_or f.slot_table.items (user * 1024 + page) 0) page tells few (sym read ∙ c.if-entry.true)) in
    rw (← c.self.view_is) (record {
      slot = nowhere;
      within = tt;
      apart = λ some. cc;
      zero = λ no_frame. absent-zero (places_in f) (owners_in f) f.sizes.items user page
          (from_none f.owners.items f.slot_owners.items user page c.self.invariant.whole.once no_frame (sym nowhere));
    })

pub returns-else-entry : goal.returns-else-entry
returns-else-entry c =
    let f = c.self.inside in
    let user = c.args.user in
    let page = c.args.page.0 in
    let inside : page * 4096 < length (bytes_in f user) = rw (← c.self.view_is) at c.requires in
    let at = slot_place_of_page f user page c.self.invariant inside in
    let read = get_or_read f.slot_table.items _ _ at.room (rw c.entry_of.ensures at c.index-entry.ensures) 0 in
    let tells = c.self.invariant.slots_tabled.agrees user page at.of_user at.of_page in
    let there : Some c.index-entry.result.now ≡ frame_of f.slot_owners.items user page =
    ap Some read ∙ sym (slot_some (frame_of f.slot_owners.items user page)
    (get_or f.slot_table.items (user * 1024 + page) 0) page tells (λ e. c.if-entry.false (read ∙ e))) in
    rw (← c.self.view_is) (record {
      slot = there;
      within = (frame_found f.slot_owners.items user page c.index-entry.result.now (sym there)).within;
      apart = λ some. slot_apart f.owners.items f.slot_owners.items user page c.index-entry.result.now
          c.self.invariant.whole.once (sym there);
      zero = tt;
    })
