use Rattle.std.proofs.Common.{◌≡◌, None, Some, arith, length-append, length, get_or, drop, ◌<◌, ◌*◌, ◌∙◌}
use Rattle.std.proofs.Math.ListN.{set, length-set}
use Rattle.std.proofs.lemmas.List.{set-append_left, get_or_append_left}
use Rattle.cp_frames.specs.Layout.{frame_of, owned}
use Rattle.cp_frames.proofs.Layouts.{whole-brought, storages-brought, length-bytes_of, cleared_by}
use Rattle.cp_frames.proofs.Exchanges.{tables_filled, looks_filled}
use Rattle.cp_frames.proofs.Halves.{from_none}
use Rattle.cp_frames.proofs.Sought.{taken-set}
use Rattle.cp_frames.proofs.Orders.{ordered-set, free_unpinned}
use Rattle.cp_frames.proofs.Inside.{bytes_in, look_place_of_page, places_in, owners_in}
use Rattle.cp_frames.proofs.pool.Frames.fill.Goals as goal

pub map_page-requires-clause-tables : goal.map_page-requires-clause-tables
map_page-requires-clause-tables c =
    let f = c.self.inside in
    let inside : c.args.page.0 * 4096 < length (bytes_in f c.args.user) = rw (← c.self.view_is) at c.requires.inside in
    let at = look_place_of_page f c.args.user c.args.page.0 c.self.invariant inside in
    omega (arith, at.of_user, at.of_page, c.self.invariant.mapped.room)

pub map_page-requires-clause-lookup : goal.map_page-requires-clause-lookup
map_page-requires-clause-lookup c =
    let f = c.self.inside in
    let inside : c.args.page.0 * 4096 < length (bytes_in f c.args.user) = rw (← c.self.view_is) at c.requires.inside in
    let at = look_place_of_page f c.args.user c.args.page.0 c.self.invariant inside in
    at.room

pub invariant_of-self : goal.invariant_of-self
invariant_of-self c =
    let f = c.self.inside in
    let user = c.args.user in
    let page = c.args.page.0 in
    let frame = c.args.frame in
    let kept = c.self.invariant in
    let absent : frame_of f.owners.items user page ≡ None = rw (← c.self.view_is) at c.requires.absent in
    let no_slot : frame_of f.slot_owners.items user page ≡ None = rw (← c.self.view_is) at c.requires.nowhere in
    let nowhere = from_none f.owners.items f.slot_owners.items user page kept.whole.once absent no_slot in
    let within : frame < length f.owners.items = rw (← c.self.view_is) at c.requires.frame in
    let free : get_or f.owners.items frame None ≡ None = rw (← c.self.view_is) at c.requires.free in
    let free_all : get_or (owners_in f) frame None ≡ None =
    get_or_append_left f.owners.items f.slot_owners.items None frame within ∙ free in
    let inside : page * 4096 < length (bytes_in f user) = rw (← c.self.view_is) at c.requires.inside in
    let at = look_place_of_page f user page kept inside in
    let long = length-bytes_of (places_in f) (owners_in f) f.sizes.items user in
    let bytes_are = set-append_left f.frames.items f.slots.items frame c.clear.new.frame
    (omega (arith, kept.frame_room)) in
    let owners_are = set-append_left f.owners.items f.slot_owners.items frame (Some (owned user page)) within in
    let all_long : frame < length (owners_in f) = omega (arith, length-append f.owners.items f.slot_owners.items) in
    record {
      frame_room = rw (length-set, length-set) kept.frame_room;
      slot_room = kept.slot_room;
      whole = rw (← bytes_are, ← owners_are)
          (whole-brought (places_in f) (set (places_in f) frame c.clear.new.frame) (owners_in f) f.sizes.items user page
          frame kept.whole (length-set (places_in f) frame c.clear.new.frame) nowhere all_long free_all (omega arith));
      mapped = rw c.map_page.ensures.tables (tables_filled f user page frame kept at.of_page absent within free);
      looked = rw c.map_page.ensures.lookup (looks_filled f user page frame kept at.of_page absent within free);
      slots_tabled = kept.slots_tabled;
      ordered = ordered-set f.owners.items f.pins f.order frame (Some (owned user page)) kept.ordered
          (free_unpinned f.owners.items f.pins f.order frame kept.ordered free);
      sought = record {
        within = kept.sought.within;
        taken = taken-set f.owners.items (drop f.end f.order) frame (owned user page) within kept.sought.taken;
        before = kept.sought.before;
      };
    }

pub returns-clause-storages : goal.returns-clause-storages
returns-clause-storages c =
    let f = c.self.inside in
    let user = c.args.user in
    let page = c.args.page.0 in
    let frame = c.args.frame in
    let kept = c.self.invariant in
    let absent : frame_of f.owners.items user page ≡ None = rw (← c.self.view_is) at c.requires.absent in
    let no_slot : frame_of f.slot_owners.items user page ≡ None = rw (← c.self.view_is) at c.requires.nowhere in
    let nowhere = from_none f.owners.items f.slot_owners.items user page kept.whole.once absent no_slot in
    let within : frame < length f.owners.items = rw (← c.self.view_is) at c.requires.frame in
    let free : get_or f.owners.items frame None ≡ None = rw (← c.self.view_is) at c.requires.free in
    let free_all : get_or (owners_in f) frame None ≡ None =
    get_or_append_left f.owners.items f.slot_owners.items None frame within ∙ free in
    let bytes_are = set-append_left f.frames.items f.slots.items frame c.clear.new.frame
    (omega (arith, kept.frame_room)) in
    let owners_are = set-append_left f.owners.items f.slot_owners.items frame (Some (owned user page)) within in
    let all_long : frame < length (owners_in f) = omega (arith, length-append f.owners.items f.slot_owners.items) in
    let room : frame < length (places_in f) = omega (arith, kept.whole.room, all_long) in
    rw (← c.self.view_is, ← bytes_are, ← owners_are)
    (storages-brought (places_in f) (set (places_in f) frame c.clear.new.frame) (owners_in f) f.sizes.items user
    page frame nowhere all_long free_all (cleared_by (places_in f) frame c.clear.new.frame room c.clear.ensures))
