use Rattle.std.proofs.Common.{refl, rules, ◌∙◌, ◌+◌, slice_range, ap}
use Rattle.s370_store.specs.Memory.{with_stored}
use Rattle.s370_bytes.proofs.Changes.{filled_is}
use Rattle.s370_bytes.proofs.combine.fill.Goals as goal

pub returns-clause-stored : goal.returns-clause-stored
returns-clause-stored g c =
    let before = (g.S.Storage.memory c.args.storage.now).bytes in
    let n = c.args.count in
    c.store.ensures.stored ∙ ap (with_stored (g.S.Storage.memory c.args.storage.now) c.args.to)
    (filled_is before (slice_range before c.args.to (c.args.to + n))
    (slice_range before c.args.from (c.args.from + n)) c.set_all.new.bytes c.args.to c.args.from n
    c.byte_at-byte.result _ c.requires.some c.requires.follows c.requires.inside refl refl
    c.byte_at-byte.ensures (search rules) c.set_all.ensures)
