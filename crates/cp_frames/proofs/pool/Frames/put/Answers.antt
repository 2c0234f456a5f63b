use Rattle.std.proofs.Common.{◌≡◌, None, sym, length, get_or, ◌<◌}
use Rattle.cp_frames.specs.Layout.{frame_of}
use Rattle.cp_frames.proofs.Orders.{absent_set, not_held}
use Rattle.cp_frames.proofs.Exchanges.{put_exchanged, put_filled}
use Rattle.cp_frames.proofs.pool.Frames.put.Goals as goal

pub returns-in-Some-clause-put : goal.returns-in-Some-clause-put
returns-in-Some-clause-put c =
    rw c.exchange.ensures.supply
    (put_exchanged c.args.self.now.supply c.args.user c.args.page.0 c.args.frame c.in-Some.slot
    (sym c.in-Some.ensures.slot))

pub fill-requires-in-Some-free_slot-clause-absent : goal.fill-requires-in-Some-free_slot-clause-absent
fill-requires-in-Some-free_slot-clause-absent c =
    let s = c.args.self.now.supply in
    let user = c.args.user in
    let page = c.args.page.0 in
    let frame = c.args.frame in
    let slot = c.in-Some-free_slot.slot in
    let free : get_or s.slots slot None ≡ None = c.in-Some-free_slot.ensures.free in
    let within : slot < length s.slots = c.in-Some-free_slot.ensures.within in
    let nowhere : frame_of s.slots user page ≡ None = sym c.in-None.ensures.slot in
    rw (c.exchange-in-Some-free_slot.ensures.supply, c.free_slot.ensures.unchanged)
    (absent_set s.owners user page frame (get_or s.slots slot None) c.requires.absent (λ e. cc))

pub fill-requires-in-Some-free_slot-clause-nowhere : goal.fill-requires-in-Some-free_slot-clause-nowhere
fill-requires-in-Some-free_slot-clause-nowhere c =
    let s = c.args.self.now.supply in
    let user = c.args.user in
    let page = c.args.page.0 in
    let frame = c.args.frame in
    let slot = c.in-Some-free_slot.slot in
    let free : get_or s.slots slot None ≡ None = c.in-Some-free_slot.ensures.free in
    let within : slot < length s.slots = c.in-Some-free_slot.ensures.within in
    let nowhere : frame_of s.slots user page ≡ None = sym c.in-None.ensures.slot in
    rw (c.exchange-in-Some-free_slot.ensures.supply, c.free_slot.ensures.unchanged)
    (absent_set s.slots user page slot (get_or s.owners frame None) nowhere
    (λ e. not_held s.owners user page frame c.requires.absent e))

pub returns-in-Some-free_slot-clause-put : goal.returns-in-Some-free_slot-clause-put
returns-in-Some-free_slot-clause-put c =
    let s = c.args.self.now.supply in
    let user = c.args.user in
    let page = c.args.page.0 in
    let frame = c.args.frame in
    let slot = c.in-Some-free_slot.slot in
    let free : get_or s.slots slot None ≡ None = c.in-Some-free_slot.ensures.free in
    let within : slot < length s.slots = c.in-Some-free_slot.ensures.within in
    let nowhere : frame_of s.slots user page ≡ None = sym c.in-None.ensures.slot in
    rw (
      c.fill-in-Some-free_slot.ensures.supply,
      c.exchange-in-Some-free_slot.ensures.supply,
      c.free_slot.ensures.unchanged,
    )
    (put_filled s user page frame slot nowhere within free)
