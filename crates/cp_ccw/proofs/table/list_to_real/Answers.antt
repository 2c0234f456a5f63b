use Rattle.std.proofs.Common.{refl, None, ◌<◌, length, arith, ap, sym, ◌∙◌}
use Rattle.std.proofs.lemmas.Option.{get_or_from_slice_get, slice_get_read}
use Rattle.s370_walk.specs.Mapped.{real_place}
use Rattle.cp_ccw.specs.Layout.{real_in}
use Rattle.cp_ccw.proofs.Moving.{entry_on}
use Rattle.cp_ccw.proofs.table.list_to_real.Goals as goal

pub entries-preserved : goal.entries-preserved
entries-preserved c =
    let lt : c.entries.count < length c.entries.list.items = omega (arith, c.entries-test.true, c.entries.list.ok.0) in
    entry_on (real_in c.args.dat.now) c.entries.count c.args.list.now.items c.entries.list.items c.real_entry.result
    c.entries.invariant lt
    (c.real_entry.ensures ∙ ap (real_place (real_in c.args.dat.now))
    (sym (get_or_from_slice_get c.entries.list.items c.entries.count c.index.result.now None
    (slice_get_read c.entries.list.items (length c.entries.list.items) c.entries.count c.index.result.now refl lt
    c.index.ensures))))
