use Rattle.std.proofs.Common.{◌≡◌, ◌/◌, ◌%◌, ◌<◌, ◌+◌, Some, sym, ◌∙◌, ap, refl, arith, length, get_or, []}
use Rattle.std.proofs.lemmas.List.{get_or_read, get_or_append_left}
use Rattle.std.proofs.lemmas.Option.{slice_get-get_or}
use Rattle.cp_frames.specs.Layout.{frame_of, owned, bytes_of}
use Rattle.cp_frames.proofs.Layouts.{load-read, frame_found}
use Rattle.cp_frames.proofs.Tables.{page_is}
use Rattle.cp_frames.proofs.Halves.{from_frame, hold_right, at_right}
use Rattle.cp_frames.proofs.Inside.{bytes_in, places_in, owners_in}
use Rattle.cp_frames.proofs.pool.Frames.byte.Goals as goal

pub returns-in-Some : goal.returns-in-Some
returns-in-Some c =
    let f = c.self.inside in
    let user = c.args.user in
    let page = c.args.address / 4096 in
    let kept = c.self.invariant in
    let lt : c.args.address < length (bytes_of c.args.self.now user) = omega arith in
    let inside : c.args.address < length (bytes_in f user) = rw (← c.self.view_is) at lt in
    let frame = c.in-Some.frame.0 in
    let there : frame_of f.owners.items user page ≡ Some frame =
    sym (rw (← c.self.view_is) at c.in-Some.ensures.frame) in
    let all = from_frame f.owners.items f.slot_owners.items user page frame kept.whole.once there in
    let room : frame < length f.frames.items =
    omega (arith, (frame_found f.owners.items user page frame there).within, kept.frame_room) in
    let read = get_or_read f.frames.items _ _ room c.index.ensures [] ∙ sym
    (get_or_append_left f.frames.items f.slots.items [] frame room) in
    rw (← c.self.view_is) (sym (slice_get-get_or (bytes_in f user) c.args.address 0 inside
    ∙ ap Some (load-read (places_in f) (owners_in f) f.sizes.items user c.args.address frame inside all ∙ ap
    (λ p. get_or p (c.args.address % 4096) 0) (sym read))))

pub returns-in-Some-slot_of : goal.returns-in-Some-slot_of
returns-in-Some-slot_of c =
    let f = c.self.inside in
    let user = c.args.user in
    let page = c.args.address / 4096 in
    let kept = c.self.invariant in
    let lt : c.args.address < length (bytes_of c.args.self.now user) = omega arith in
    let inside : c.args.address < length (bytes_in f user) = rw (← c.self.view_is) at lt in
    let slot = c.in-Some-slot_of.slot in
    let there : frame_of f.slot_owners.items user page ≡ Some slot =
    sym (rw (← c.self.view_is) at c.in-Some-slot_of.ensures.slot) in
    let all = kept.whole.once (length f.owners.items + slot) (owned user page)
    (hold_right f.owners.items f.slot_owners.items slot (owned user page)
    (page_is f.slot_owners.items user page slot there)) in
    let room : slot < length f.slots.items =
    omega (arith, (frame_found f.slot_owners.items user page slot there).within, kept.slot_room) in
    let read = get_or_read f.slots.items _ _ room c.index-in-Some-slot_of.ensures [] ∙ sym
    (at_right f.frames.items f.slots.items slot []) ∙ ap (λ n. get_or (places_in f) (n + slot) []) kept.frame_room
    in
    rw (← c.self.view_is) (sym (slice_get-get_or (bytes_in f user) c.args.address 0 inside
    ∙ ap Some (load-read (places_in f) (owners_in f) f.sizes.items user c.args.address (length f.owners.items + slot)
    inside all ∙ ap (λ p. get_or p (c.args.address % 4096) 0) (sym read))))

pub returns-in-None-slot_of : goal.returns-in-None-slot_of
returns-in-None-slot_of c =
    let lt : c.args.address < length (bytes_of c.args.self.now c.args.user) = omega arith in
    sym (slice_get-get_or (bytes_of c.args.self.now c.args.user) c.args.address 0 lt ∙ ap Some
    (c.in-None-slot_of.ensures.zero (sym c.in-None.ensures.frame) c.args.address refl))
