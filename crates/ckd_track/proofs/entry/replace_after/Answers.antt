use Rattle.std.proofs.Common.{arith, ap, ◌∙◌, refl, length, ◌≡◌, take}
use Rattle.std.proofs.lemmas.List.{length-take-le}
use Rattle.ckd_track.specs.Laid.{total}
use Rattle.ckd_track.proofs.Laying.{after_laid, after_records, room_for_entry, room_for_text, total_take}
use Rattle.ckd_track.proofs.entry.replace_after.Goals as goal

pub append-requires-clause-entries : goal.append-requires-clause-entries
append-requires-clause-entries c =
    let long : length c.truncate.new.self.items ≡ c.args.i = ap length c.truncate.ensures.items
    ∙ length-take-le c.args.i c.args.entries.now.items c.requires.within in
    omega (
      arith,
      long,
      room_for_entry c.args.entries.now.items c.args.i (length c.args.key.now)
          (length c.args.content.now) c.requires.room c.requires.within,
      c.truncate.ensures.capacity,
      c.requires.entries,
    )

pub append-requires-clause-area : goal.append-requires-clause-area
append-requires-clause-area c =
    let start : c.start_of-start.result ≡ total (take c.args.i c.args.entries.now.items) = c.start_of-start.ensures.sum
    ∙ ap (λ l. total (take c.args.i l)) c.deref.ensures.value in
    let long : length c.truncate-2.new.self.items ≡ c.start_of-start.result
    = ap length c.truncate-2.ensures.items ∙ length-take-le c.start_of-start.result c.args.area.now.items
    (omega (arith, c.requires.laid.whole, start, total_take c.args.entries.now.items c.args.i)) in
    omega (
      arith,
      long,
      start,
      room_for_text c.args.entries.now.items c.args.i (length c.args.key.now)
          (length c.args.content.now) c.requires.room,
      c.truncate-2.ensures.capacity,
      c.requires.area,
    )

pub returns-clause-laid : goal.returns-clause-laid
returns-clause-laid c =
    rw (
      c.append.ensures.entries,
      c.append.ensures.area,
      c.truncate.ensures.items,
      c.truncate-2.ensures.items,
      c.start_of-start.ensures.sum,
      c.deref.ensures.value,
    )
    (after_laid c.args.entries.now.items c.args.area.now.items c.args.i
    (record { id = c.args.id; key = length c.args.key.now; content = length c.args.content.now }) c.args.key.now
    c.args.content.now c.requires.laid c.requires.room refl refl)

pub returns-clause-records : goal.returns-clause-records
returns-clause-records c =
    rw (
      c.append.ensures.entries,
      c.append.ensures.area,
      c.truncate.ensures.items,
      c.truncate-2.ensures.items,
      c.start_of-start.ensures.sum,
      c.deref.ensures.value,
    )
    (after_records c.args.entries.now.items c.args.area.now.items c.args.i
    (record { id = c.args.id; key = length c.args.key.now; content = length c.args.content.now }) c.args.key.now
    c.args.content.now c.requires.laid refl refl)

pub returns-clause-number : goal.returns-clause-number
returns-clause-number c = room_for_entry c.args.entries.now.items c.args.i (length c.args.key.now)
    (length c.args.content.now) c.requires.room c.requires.within
