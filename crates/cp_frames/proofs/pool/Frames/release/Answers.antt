use Rattle.std.proofs.Common.{◌∙◌, ◌≡◌, ap, sym, length, replicate, false, Bool, List}
use Rattle.std.proofs.lemmas.List.{length-replicate}
use Rattle.cp_frames.specs.Layout.{Pool, FrameSupply, IsMapped, IsTabled, cleared_of, frame_entry, slot_entry}
use Rattle.cp_frames.proofs.Layouts.{frame_of-cleared, storages-cleared, length-bytes_of}
use Rattle.cp_frames.proofs.Releases.{frame_pages, released-kept, released-storages}
use Rattle.cp_frames.proofs.Inside.{places_in, owners_in}
use Rattle.cp_frames.proofs.pool.Frames.release.Goals as goal

pub free_user_frames-requires-clause-pages : goal.free_user_frames-requires-clause-pages
free_user_frames-requires-clause-pages c = rw c.deref.ensures.value (frame_pages c.self.inside c.self.invariant)

pub invariant_of-self : goal.invariant_of-self
invariant_of-self c =
    let f = c.self.inside in
    let pins = ap (λ (p : Pool). p.supply.pins) c.self.view_is ∙ ap (λ (s : FrameSupply). s.pins)
    c.unpin_all.ensures.supply in
    let blank : f.pins ≡ replicate (length f.pins) false =
    pins ∙ ap (λ n. replicate n false)
    (sym (ap (λ (ps : List Bool). length ps) pins ∙ length-replicate (length c.args.self.now.supply.pins) false)) in
    let mapped : IsMapped (cleared_of c.args.user f.owners.items) f.sizes.items c.free_user_frames.new.tables.items =
    rw (c.free_user_frames.ensures.owners, c.deref.ensures.value) at c.free_user_frames.ensures.mapped in
    let looked : IsTabled frame_entry (cleared_of c.args.user f.owners.items) f.sizes.items
    c.free_user_frames.new.lookup.items =
    rw (c.free_user_frames.ensures.owners, c.deref.ensures.value) at c.free_user_frames.ensures.looked in
    let slots_tabled : IsTabled slot_entry (cleared_of c.args.user f.slot_owners.items) f.sizes.items
    c.free_user_slots.new.table.items =
    rw c.free_user_slots.ensures.owners at (c.free_user_slots.ensures.tabled f.sizes.items
    c.self.invariant.slots_tabled) in
    rw (c.free_user_frames.ensures.owners, c.free_user_slots.ensures.owners)
    (released-kept f c.args.user c.free_user_frames.new.tables.items c.free_user_frames.new.lookup.items
    c.free_user_slots.new.table.items
    c.len-self-inside.result c.self.invariant blank mapped looked slots_tabled
    c.len-self-inside.ensures)

pub returns-clause-storages : goal.returns-clause-storages
returns-clause-storages c =
    let f = c.self.inside in
    let long = length-bytes_of (places_in f) (owners_in f) f.sizes.items c.args.user in
    rw (
      c.free_user_frames.ensures.owners,
      c.free_user_slots.ensures.owners,
      ← c.unpin_all.ensures.storages,
      ←
          c.self.view_is,
      long,
    )
    (released-storages f c.args.user ∙ storages-cleared (places_in f) (owners_in f) f.sizes.items c.args.user)

pub returns-clause-unmapped : goal.returns-clause-unmapped
returns-clause-unmapped c page = rw c.free_user_frames.ensures.owners (frame_of-cleared c.self.inside.owners.items
    c.args.user
    page)

pub returns-clause-gone_slots : goal.returns-clause-gone_slots
returns-clause-gone_slots c page =
    rw c.free_user_slots.ensures.owners (frame_of-cleared c.self.inside.slot_owners.items c.args.user page)
