use Rattle.std.proofs.Common.{◌≡◌, ◌/◌, ◌≤◌, ◌+◌, ◌∙◌, arith, length, get_or, [], sym, Some}
use Rattle.std.proofs.lemmas.List.{get_or_append_left}
use Rattle.cp_frames.specs.Layout.{frame_of}
use Rattle.cp_frames.proofs.Layouts.{length-bytes_of}
use Rattle.cp_frames.proofs.Inside.{bytes_in, slot_in, places_in, owners_in}
use Rattle.cp_frames.proofs.PageParts.{part_read}
use Rattle.cp_frames.proofs.pool.Frames.load_in.Goals as goal

pub copy_out_at-requires : goal.copy_out_at-requires
copy_out_at-requires c =
    let f = c.self.inside in
    let there : frame_of f.owners.items c.args._user (c.args.start / 4096) ≡ Some (c.args.place / 4096) =
    rw (← c.self.view_is) at c.requires.there in
    let slot = slot_in f c.args._user (c.args.start / 4096) (c.args.place / 4096) c.self.invariant there in
    record { within = rw c.requires.offset c.requires.one_page; inside = rw c.deref.ensures.value slot.room }

pub returns-clause-fits : goal.returns-clause-fits
returns-clause-fits c =
    let f = c.self.inside in
    let count = length-bytes_of (places_in f) (owners_in f) f.sizes.items c.args._user in
    let small = c.self.invariant.whole.small c.args._user in
    let most : length (bytes_in f c.args._user) ≤ 4194304 = omega arith in
    rw (← c.self.view_is) most

pub returns-clause-read : goal.returns-clause-read
returns-clause-read c =
    let f = c.self.inside in
    let frame = c.args.place / 4096 in
    let n = length c.args.into.now in
    let long : c.args.start + n ≤ length (bytes_in f c.args._user) = rw (← c.self.view_is) at c.requires.within in
    let there : frame_of f.owners.items c.args._user (c.args.start / 4096) ≡ Some frame =
    rw (← c.self.view_is) at c.requires.there in
    let slot = slot_in f c.args._user (c.args.start / 4096) frame c.self.invariant there in
    let page = sym (get_or_append_left f.frames.items f.slots.items [] frame slot.room) in
    let read = part_read (places_in f) (owners_in f) f.sizes.items c.args._user c.args.start frame n
    (get_or f.frames.items frame []) slot.there page (rw c.deref.ensures.value at c.copy_out_at.ensures.full)
    c.requires.one_page long in
    rw (← c.self.view_is) ((rw (c.deref.ensures.value, c.requires.offset) at c.copy_out_at.ensures.part) ∙ read)
