use Rattle.std.proofs.Common.{Option, Some, subst, ◌≡◌, None, sym, arith, length, get_or, ◌<◌, ◌+◌, ◌*◌, ◌∙◌, ap, []}
use Rattle.std.proofs.Common.{false}
use Rattle.std.proofs.lemmas.List.{get_or_read, get_or_append_left}
use Rattle.std.specs.Prelude.{All, IsSome, take}
use Rattle.std.proofs.Math.ListN.{set}
use Rattle.cp_frames.specs.declared.numbers.UserPage.{UserPage}
use Rattle.cp_frames.specs.Layout.{frame_entry, slot_entry, reported}
use Rattle.cp_frames.specs.Tables.{noted}
use Rattle.cp_frames.proofs.Halves.{at_right}
use Rattle.cp_frames.proofs.Told.{length-reported}
use Rattle.cp_frames.proofs.Mapped.{length-noted}
use Rattle.cp_frames.proofs.Orders.{entry_room}
use Rattle.cp_frames.proofs.Exchanges.{exchange-kept, exchange-storages, note_room}
use Rattle.cp_frames.proofs.Inside.{places_in, owners_in}
use Rattle.cp_frames.proofs.pool.Frames.exchange.Goals as goal

pub unmap_page-requires-clause-tables : goal.unmap_page-requires-clause-tables
unmap_page-requires-clause-tables c =
    let f = c.self.inside in
    let frame = c.args.frame in
    let slot = c.args.slot in
    let kept = c.self.invariant in
    let within : frame < length f.owners.items = rw (← c.self.view_is) at c.requires.frame in
    let slot_in : slot < length f.slot_owners.items = rw (← c.self.view_is) at c.requires.slot in
    let given = get_or_read f.owners.items _ _ within c.index.ensures None in
    note_room (places_in f) (owners_in f) f.owners.items f.sizes.items f.tables.items frame c.index.result.now
    kept.whole kept.mapped (get_or_append_left f.owners.items f.slot_owners.items None frame within ∙ sym given)

pub unmap_page-requires-clause-lookup : goal.unmap_page-requires-clause-lookup
unmap_page-requires-clause-lookup c =
    let f = c.self.inside in
    let frame = c.args.frame in
    let slot = c.args.slot in
    let kept = c.self.invariant in
    let within : frame < length f.owners.items = rw (← c.self.view_is) at c.requires.frame in
    let slot_in : slot < length f.slot_owners.items = rw (← c.self.view_is) at c.requires.slot in
    let given = get_or_read f.owners.items _ _ within c.index.ensures None in
    entry_room frame_entry (places_in f) (owners_in f) f.owners.items f.sizes.items f.lookup.items frame
    c.index.result.now kept.whole kept.looked
    (get_or_append_left f.owners.items f.slot_owners.items None frame within ∙ sym given)

pub map_page-requires-clause-tables : goal.map_page-requires-clause-tables
map_page-requires-clause-tables c =
    let f = c.self.inside in
    let frame = c.args.frame in
    let slot = c.args.slot in
    let kept = c.self.invariant in
    let within : frame < length f.owners.items = rw (← c.self.view_is) at c.requires.frame in
    let slot_in : slot < length f.slot_owners.items = rw (← c.self.view_is) at c.requires.slot in
    let wanted = get_or_read f.slot_owners.items _ _ slot_in c.index-2.ensures None in
    let room = note_room (places_in f) (owners_in f) f.owners.items f.sizes.items f.tables.items
    (length f.owners.items + slot) c.index-2.result.now kept.whole kept.mapped
    (at_right f.owners.items f.slot_owners.items slot None ∙ sym wanted) in
    rw (c.unmap_page.ensures.tables, length-noted) room

pub map_page-requires-clause-lookup : goal.map_page-requires-clause-lookup
map_page-requires-clause-lookup c =
    let f = c.self.inside in
    let frame = c.args.frame in
    let slot = c.args.slot in
    let kept = c.self.invariant in
    let within : frame < length f.owners.items = rw (← c.self.view_is) at c.requires.frame in
    let slot_in : slot < length f.slot_owners.items = rw (← c.self.view_is) at c.requires.slot in
    let wanted = get_or_read f.slot_owners.items _ _ slot_in c.index-2.ensures None in
    let room = entry_room frame_entry (places_in f) (owners_in f) f.owners.items f.sizes.items f.lookup.items
    (length f.owners.items + slot) c.index-2.result.now kept.whole kept.looked
    (at_right f.owners.items f.slot_owners.items slot None ∙ sym wanted) in
    rw (c.unmap_page.ensures.lookup, length-reported) room

pub clear_slot-requires : goal.clear_slot-requires
clear_slot-requires c =
    let f = c.self.inside in
    let frame = c.args.frame in
    let slot = c.args.slot in
    let kept = c.self.invariant in
    let within : frame < length f.owners.items = rw (← c.self.view_is) at c.requires.frame in
    let slot_in : slot < length f.slot_owners.items = rw (← c.self.view_is) at c.requires.slot in
    let wanted = get_or_read f.slot_owners.items _ _ slot_in c.index-3.ensures None in
    entry_room slot_entry (places_in f) (owners_in f) f.slot_owners.items f.sizes.items f.slot_table.items
    (length f.owners.items + slot) c.index-3.result.now kept.whole kept.slots_tabled
    (at_right f.owners.items f.slot_owners.items slot None ∙ sym wanted)

pub set_slot-requires : goal.set_slot-requires
set_slot-requires c =
    let f = c.self.inside in
    let frame = c.args.frame in
    let slot = c.args.slot in
    let kept = c.self.invariant in
    let within : frame < length f.owners.items = rw (← c.self.view_is) at c.requires.frame in
    let slot_in : slot < length f.slot_owners.items = rw (← c.self.view_is) at c.requires.slot in
    let given = get_or_read f.owners.items _ _ within c.index-4.ensures None in
    let room = entry_room slot_entry (places_in f) (owners_in f) f.slot_owners.items f.sizes.items f.slot_table.items
    frame c.index-4.result.now kept.whole kept.slots_tabled
    (get_or_append_left f.owners.items f.slot_owners.items None frame within ∙ sym given) in
    rw (c.clear_slot.ensures, length-reported) room

pub invariant_of-self : goal.invariant_of-self
invariant_of-self c =
    let f = c.self.inside in
    let frame = c.args.frame in
    let slot = c.args.slot in
    let kept = c.self.invariant in
    let within : frame < length f.owners.items = rw (← c.self.view_is) at c.requires.frame in
    let slot_in : slot < length f.slot_owners.items = rw (← c.self.view_is) at c.requires.slot in
    let given = get_or_read f.owners.items _ _ within c.index.ensures None in
    let wanted = get_or_read f.slot_owners.items _ _ slot_in c.index-2.ensures None in
    let wanted_2 = get_or_read f.slot_owners.items _ _ slot_in c.index-3.ensures None in
    let given_2 = get_or_read f.owners.items _ _ within c.index-4.ensures None in
    let frame_in : frame < length f.frames.items = omega (arith, kept.frame_room) in
    let bytes_in : slot < length f.slots.items = omega (arith, kept.slot_room) in
    let o = c.swap.ensures.x_after ∙ get_or_read f.slot_owners.items _ _ slot_in c.index_mut-2.ensures.value None in
    let p = c.swap.ensures.y_after ∙ get_or_read f.owners.items _ _ within c.index_mut.ensures.value None in
    let x = c.swap-2.ensures.x_after ∙ get_or_read f.slots.items _ _ bytes_in c.index_mut-4.ensures.value [] in
    let y = c.swap-2.ensures.y_after ∙ get_or_read f.frames.items _ _ frame_in c.index_mut-3.ensures.value [] in
    let unpinned : get_or f.pins frame false ≡ false = rw (← c.self.view_is) at c.requires.unpinned in
    let tables : c.map_page.new.tables.items
    ≡ noted (get_or f.slot_owners.items slot None) (frame * 16)
    (noted (get_or f.owners.items frame None) 8 f.tables.items) =
    c.map_page.ensures.tables ∙ ap (noted c.index-2.result.now (frame * 16))
    (c.unmap_page.ensures.tables ∙ ap (λ o. noted o 8 f.tables.items) given)
    ∙ ap (λ o. noted o (frame * 16) (noted (get_or f.owners.items frame None) 8 f.tables.items)) wanted in
    let lookup : c.map_page.new.lookup.items
    ≡ reported frame_entry (get_or f.slot_owners.items slot None) (Some frame)
    (reported frame_entry (get_or f.owners.items frame None) None f.lookup.items) =
    c.map_page.ensures.lookup ∙ ap (reported frame_entry c.index-2.result.now (Some frame))
    (c.unmap_page.ensures.lookup ∙ ap (λ o. reported frame_entry o None f.lookup.items) given)
    ∙ ap (λ o. reported frame_entry o (Some frame)
    (reported frame_entry (get_or f.owners.items frame None) None f.lookup.items)) wanted in
    let given_3 = get_or_read f.owners.items _ _ within c.index-5.ensures None in
    let low : All IsSome (take c.low_after-self-inside.result
    (set f.slot_owners.items slot (get_or f.owners.items frame None))) =
    subst (λ (o : Option UserPage). All IsSome (take c.low_after-self-inside.result (set f.slot_owners.items slot o)))
    given_3 (c.low_after-self-inside.ensures f.slot_owners.items kept.sought.before) in
    let slot_table : c.set_slot.new.table.items
    ≡ reported slot_entry (get_or f.owners.items frame None) (Some slot)
    (reported slot_entry (get_or f.slot_owners.items slot None) None f.slot_table.items) =
    c.set_slot.ensures ∙ ap (reported slot_entry c.index-4.result.now (Some slot))
    (c.clear_slot.ensures ∙ ap (λ o. reported slot_entry o None f.slot_table.items) wanted_2)
    ∙ ap (λ o. reported slot_entry o (Some slot)
    (reported slot_entry (get_or f.slot_owners.items slot None) None f.slot_table.items)) given_2 in
    rw (o, p, x, y, tables, lookup, slot_table)
    (exchange-kept f frame slot c.len-self-inside.result c.low_after-self-inside.result kept within slot_in unpinned
    c.len-self-inside.ensures low)

pub returns-clause-storages : goal.returns-clause-storages
returns-clause-storages c =
    let f = c.self.inside in
    let frame = c.args.frame in
    let slot = c.args.slot in
    let kept = c.self.invariant in
    let within : frame < length f.owners.items = rw (← c.self.view_is) at c.requires.frame in
    let slot_in : slot < length f.slot_owners.items = rw (← c.self.view_is) at c.requires.slot in
    let given = get_or_read f.owners.items _ _ within c.index.ensures None in
    let wanted = get_or_read f.slot_owners.items _ _ slot_in c.index-2.ensures None in
    let wanted_2 = get_or_read f.slot_owners.items _ _ slot_in c.index-3.ensures None in
    let given_2 = get_or_read f.owners.items _ _ within c.index-4.ensures None in
    let frame_in : frame < length f.frames.items = omega (arith, kept.frame_room) in
    let bytes_in : slot < length f.slots.items = omega (arith, kept.slot_room) in
    let o = c.swap.ensures.x_after ∙ get_or_read f.slot_owners.items _ _ slot_in c.index_mut-2.ensures.value None in
    let p = c.swap.ensures.y_after ∙ get_or_read f.owners.items _ _ within c.index_mut.ensures.value None in
    let x = c.swap-2.ensures.x_after ∙ get_or_read f.slots.items _ _ bytes_in c.index_mut-4.ensures.value [] in
    let y = c.swap-2.ensures.y_after ∙ get_or_read f.frames.items _ _ frame_in c.index_mut-3.ensures.value [] in
    rw (← c.self.view_is, o, p, x, y) (exchange-storages f frame slot kept within slot_in)
