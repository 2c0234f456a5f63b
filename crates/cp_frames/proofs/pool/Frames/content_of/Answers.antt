use Rattle.std.proofs.Common.{◌≡◌, ◌<◌, ◌*◌, ◌∙◌, Some, sym, length, []}
use Rattle.std.proofs.lemmas.List.{get_or_read}
use Rattle.cp_frames.specs.Layout.{frame_of}
use Rattle.cp_frames.proofs.Inside.{bytes_in}
use Rattle.cp_frames.proofs.Contents.{content_in_frame, content_in_slot, frame_within, slot_within}
use Rattle.cp_frames.proofs.pool.Frames.content_of.Goals as goal

pub returns-in-Some-clause-content : goal.returns-in-Some-clause-content
returns-in-Some-clause-content c =
    let f = c.self.inside in
    let user = c.args.user in
    let page = c.args.page.0 in
    let inside : page * 4096 < length (bytes_in f user) = rw (← c.self.view_is) at c.requires in
    let frame = c.in-Some.frame.0 in
    let there : frame_of f.owners.items user page ≡ Some frame =
    sym (rw (← c.self.view_is) at c.in-Some.ensures.frame) in
    let room = frame_within f user page frame c.self.invariant there in
    let read = get_or_read f.frames.items _ _ room c.index.ensures [] in
    rw (← c.self.view_is) (content_in_frame f user page frame c.whole.result.now c.self.invariant there
    (c.whole.ensures.unchanged ∙ read) c.whole.ensures.full inside)

pub returns-in-Some-slot_of-clause-content : goal.returns-in-Some-slot_of-clause-content
returns-in-Some-slot_of-clause-content c =
    let f = c.self.inside in
    let user = c.args.user in
    let page = c.args.page.0 in
    let inside : page * 4096 < length (bytes_in f user) = rw (← c.self.view_is) at c.requires in
    let slot = c.in-Some-slot_of.slot in
    let there : frame_of f.slot_owners.items user page ≡ Some slot =
    sym (rw (← c.self.view_is) at c.in-Some-slot_of.ensures.slot) in
    let room = slot_within f user page slot c.self.invariant there in
    let read = get_or_read f.slots.items _ _ room c.index-in-Some-slot_of.ensures [] in
    rw (← c.self.view_is) (content_in_slot f user page slot c.whole-in-Some-slot_of.result.now c.self.invariant there
    (c.whole-in-Some-slot_of.ensures.unchanged ∙ read) c.whole-in-Some-slot_of.ensures.full inside)
