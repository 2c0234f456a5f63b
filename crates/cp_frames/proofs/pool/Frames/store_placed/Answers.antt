use Rattle.std.proofs.Common.{◌≡◌, Some, ◌/◌, ◌%◌, ◌≤◌, ◌+◌, arith, length, [], sym, ◌∙◌}
use Rattle.std.proofs.lemmas.List.{get_or_read, get_or_append_left, set-append_left}
use Rattle.s370_store.specs.Access.{put}
use Rattle.cp_frames.specs.Layout.{frame_of}
use Rattle.cp_frames.proofs.Layouts.{length-bytes_of}
use Rattle.cp_frames.proofs.Inside.{bytes_in, of_user, slot_in, places_in, owners_in}
use Rattle.cp_frames.proofs.PageParts.{part_stored}
use Rattle.cp_frames.proofs.pool.Frames.store_placed.Goals as goal

pub index_mut-requires : goal.index_mut-requires
index_mut-requires c =
    let f = c.self.inside in
    let long : c.args.start + length c.args.from.now ≤ length (bytes_in f c.args._user) =
    rw (← c.self.view_is) at c.requires.within in
    let there : frame_of f.owners.items c.args._user (c.args.start / 4096) ≡ Some (c.args.place / 4096) =
    rw (← c.self.view_is) at c.requires.there in
    let slot = slot_in f c.args._user (c.args.start / 4096) (c.args.place / 4096) c.self.invariant there in
    omega (arith, slot.room, f.frames.ok.0)

pub returns-clause-fits : goal.returns-clause-fits
returns-clause-fits c =
    let f = c.self.inside in
    let count = length-bytes_of (places_in f) (owners_in f) f.sizes.items c.args._user in
    let small = c.self.invariant.whole.small c.args._user in
    let most : length (bytes_in f c.args._user) ≤ 4194304 = omega arith in
    rw (← c.self.view_is) most

pub returns-clause-bytes : goal.returns-clause-bytes
returns-clause-bytes c =
    let f = c.self.inside in
    let long : c.args.start + length c.args.from.now ≤ length (bytes_in f c.args._user) =
    rw (← c.self.view_is) at c.requires.within in
    let there : frame_of f.owners.items c.args._user (c.args.start / 4096) ≡ Some (c.args.place / 4096) =
    rw (← c.self.view_is) at c.requires.there in
    let slot = slot_in f c.args._user (c.args.start / 4096) (c.args.place / 4096) c.self.invariant there in
    let page = get_or_read f.frames.items _ _ slot.room c.index_mut.ensures.value [] ∙ sym
    (get_or_append_left f.frames.items f.slots.items [] (c.args.place / 4096) slot.room) in
    rw (
      ← c.self.view_is,
      rw c.requires.offset at c.copy_in.ensures.part,
      ← set-append_left f.frames.items f.slots.items (c.args.place / 4096)
          (put c.index_mut.result.now (c.args.start % 4096) c.args.from.now) slot.room,
    )
    (part_stored (places_in f) (owners_in f) f.sizes.items c.args._user c.args.start (c.args.place / 4096)
    c.args.from.now c.index_mut.result.now c.self.invariant.whole slot.there page c.copy_in.ensures.full
    c.requires.one_page long (of_user f c.args._user c.args.start long c.requires.some)).bytes

pub returns-clause-size : goal.returns-clause-size
returns-clause-size c =
    let f = c.self.inside in
    let long : c.args.start + length c.args.from.now ≤ length (bytes_in f c.args._user) =
    rw (← c.self.view_is) at c.requires.within in
    let there : frame_of f.owners.items c.args._user (c.args.start / 4096) ≡ Some (c.args.place / 4096) =
    rw (← c.self.view_is) at c.requires.there in
    let slot = slot_in f c.args._user (c.args.start / 4096) (c.args.place / 4096) c.self.invariant there in
    let page = get_or_read f.frames.items _ _ slot.room c.index_mut.ensures.value [] ∙ sym
    (get_or_append_left f.frames.items f.slots.items [] (c.args.place / 4096) slot.room) in
    rw (
      ← c.self.view_is,
      rw c.requires.offset at c.copy_in.ensures.part,
      ← set-append_left f.frames.items f.slots.items (c.args.place / 4096)
          (put c.index_mut.result.now (c.args.start % 4096) c.args.from.now) slot.room,
    )
    (part_stored (places_in f) (owners_in f) f.sizes.items c.args._user c.args.start (c.args.place / 4096)
    c.args.from.now c.index_mut.result.now c.self.invariant.whole slot.there page c.copy_in.ensures.full
    c.requires.one_page long (of_user f c.args._user c.args.start long c.requires.some)).size

pub returns-clause-others : goal.returns-clause-others
returns-clause-others c =
    let f = c.self.inside in
    let long : c.args.start + length c.args.from.now ≤ length (bytes_in f c.args._user) =
    rw (← c.self.view_is) at c.requires.within in
    let there : frame_of f.owners.items c.args._user (c.args.start / 4096) ≡ Some (c.args.place / 4096) =
    rw (← c.self.view_is) at c.requires.there in
    let slot = slot_in f c.args._user (c.args.start / 4096) (c.args.place / 4096) c.self.invariant there in
    let page = get_or_read f.frames.items _ _ slot.room c.index_mut.ensures.value [] ∙ sym
    (get_or_append_left f.frames.items f.slots.items [] (c.args.place / 4096) slot.room) in
    rw (
      ← c.self.view_is,
      rw c.requires.offset at c.copy_in.ensures.part,
      ← set-append_left f.frames.items f.slots.items (c.args.place / 4096)
          (put c.index_mut.result.now (c.args.start % 4096) c.args.from.now) slot.room,
    )
    (part_stored (places_in f) (owners_in f) f.sizes.items c.args._user c.args.start (c.args.place / 4096)
    c.args.from.now c.index_mut.result.now c.self.invariant.whole slot.there page c.copy_in.ensures.full
    c.requires.one_page long (of_user f c.args._user c.args.start long c.requires.some)).others
