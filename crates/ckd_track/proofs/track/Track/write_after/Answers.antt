use Rattle.std.specs.Prelude.{true, false, nat_le, ◌&&◌, ◌≡◌, ◌+◌, take}
use Rattle.std.proofs.Common.{arith, sym, ap, ◌∙◌, length, ◌≤◌}
use Rattle.ckd_track.specs.Track.{record_cost}
use Rattle.ckd_track.specs.Laid.{records_of, total_cost}
use Rattle.ckd_track.proofs.Laying.{length_records, cost_of_first}
use Rattle.ckd_track.proofs.track.Track.write_after.Goals as goal

pub has_room-requires-clause-within : goal.has_room-requires-clause-within
has_room-requires-clause-within c =
    let le : c.args.i ≤ length (records_of c.self.inside.entries.items c.self.inside.area.items) = rw
    (← c.self.view_is) at c.requires in
    rw (c.deref.ensures.value) (omega (arith, le, length_records c.self.inside.entries.items c.self.inside.area.items))

pub replace_after-requires-clause-within : goal.replace_after-requires-clause-within
replace_after-requires-clause-within c =
    let le : c.args.i ≤ length (records_of c.self.inside.entries.items c.self.inside.area.items) = rw
    (← c.self.view_is) at c.requires in
    omega (arith, le, length_records c.self.inside.entries.items c.self.inside.area.items)

pub returns-then-not-has_room-clause-cases : goal.returns-then-not-has_room-clause-cases
returns-then-not-has_room-clause-cases c =
    let reported : false ≡ (nat_le (length c.args.key.now) 255 && nat_le
    (total_cost (take c.args.i c.self.inside.entries.items) + record_cost (length c.args.key.now)
    (length c.args.content.now)) 13165)
    = sym c.if-not-has_room.true ∙ c.has_room.ensures ∙ ap (λ l. nat_le (length c.args.key.now) 255 && nat_le
    (total_cost (take c.args.i l) + record_cost (length c.args.key.now) (length c.args.content.now)) 13165)
    c.deref.ensures.value in
    rw (
      ← c.self.view_is,
      cost_of_first c.self.inside.entries.items c.self.inside.area.items c.args.i
          c.self.invariant.0,
    ) reported

pub returns-clause-cases : goal.returns-clause-cases
returns-clause-cases c =
    let reported : true ≡ (nat_le (length c.args.key.now) 255 && nat_le
    (total_cost (take c.args.i c.self.inside.entries.items) + record_cost (length c.args.key.now)
    (length c.args.content.now)) 13165)
    = sym c.if-not-has_room.false ∙ c.has_room.ensures ∙ ap (λ l. nat_le (length c.args.key.now) 255 && nat_le
    (total_cost (take c.args.i l) + record_cost (length c.args.key.now) (length c.args.content.now)) 13165)
    c.deref.ensures.value in
    rw (
      ← c.self.view_is,
      cost_of_first c.self.inside.entries.items c.self.inside.area.items c.args.i
          c.self.invariant.0,
    ) reported
