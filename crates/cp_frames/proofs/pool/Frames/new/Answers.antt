use Rattle.std.proofs.Common.{arith, ◌∙◌, ap, replicate, None, false, ◌*◌, ◌++◌, ℕ, length, ◌≡◌}
use Rattle.cp_frames.proofs.Releases.{sound-first, storages-first}
use Rattle.cp_frames.proofs.pool.Frames.new.Goals as goal

pub invariant_of-result : goal.invariant_of-result
invariant_of-result c =
    let count : c.len-entries.result ≡ length c.args.sizes.items =
    omega (arith, c.len-entries.ensures, c.args.sizes.ok.0) in
    let frames : length c.in_ok-frames.frames.items ≡ c.args.frames =
    c.in_ok-frames.ensures ∙ c.from-frame_count.ensures in
    let slots : length c.in_ok-slots.slots.items ≡ c.args.slots = c.in_ok-slots.ensures in
    rw c.from-frame_count.ensures
    (sound-first c.in_ok-frames.frames.items c.in_ok-slots.slots.items c.in_ok-owners.owners.items
    c.in_ok-slot_owners.slot_owners.items c.args.sizes.items c.in_ok-tables.tables.items c.in_ok-lookup.lookup.items
    c.in_ok-slot_table.slot_table.items c.in_ok-pins.pins c.in_ok-order.order c.args.frames c.args.slots
    frames slots (c.in_ok-owners.ensures ∙ ap (λ n. replicate n None) c.from-frame_count.ensures)
    c.in_ok-slot_owners.ensures (rw c.deref.ensures.value at c.in_ok-tables.ensures.size)
    (rw c.deref.ensures.value at c.in_ok-tables.ensures.halves)
    (c.in_ok-lookup.ensures ∙ ap (λ (n : ℕ). replicate (1024 * n) 1) count)
    (c.in_ok-slot_table.ensures ∙ ap (λ (n : ℕ). replicate (1024 * n) 4294967295) count)
    (c.in_ok-pins.ensures ∙ ap (λ n. replicate n false) c.from-frame_count.ensures) c.in_ok-order.ensures
    c.requires.frames c.requires.slots c.requires.users c.requires.pages)

pub returns-clause-storages : goal.returns-clause-storages
returns-clause-storages c =
    storages-first (c.in_ok-frames.frames.items ++ c.in_ok-slots.slots.items) c.in_ok-owners.owners.items
    c.in_ok-slot_owners.slot_owners.items c.args.sizes.items c.args.frames c.args.slots
    (c.in_ok-owners.ensures ∙ ap (λ n. replicate n None) c.from-frame_count.ensures) c.in_ok-slot_owners.ensures
