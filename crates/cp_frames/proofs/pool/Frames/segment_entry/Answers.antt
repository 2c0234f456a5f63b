use Rattle.std.proofs.Common.{◌≡◌, ◌<◌, length, get_or, arith}
use Rattle.std.proofs.lemmas.List.{get_or_past}
use Rattle.cp_frames.proofs.Mapped.{no_segment}
use Rattle.cp_frames.proofs.Inside.{pages_in}
use Rattle.cp_frames.proofs.pool.Frames.segment_entry.Goals as goal

pub returns-then-index-len : goal.returns-then-index-len
returns-then-index-len c =
    let f = c.self.inside in
    let user = c.args.user in
    let in_user : user < length f.sizes.items =
    omega (arith, c.if-index-len.true, c.index.ensures.value, c.len.ensures, f.sizes.ok.0) in
    rw (
      ← c.self.view_is,
      c.word_at.ensures,
      c.deref.ensures.value,
      c.segment_place.ensures,
      c.index-then-index-len.ensures.value,
      pages_in f user,
    )
    (c.self.invariant.mapped.segments user c.args.segment in_user c.requires)

pub returns-else-index-len : goal.returns-else-index-len
returns-else-index-len c =
    let f = c.self.inside in
    let user = c.args.user in
    let none : get_or f.sizes.items user 0 ≡ 0 =
    get_or_past f.sizes.items user 0
    (omega (arith, c.if-index-len.false, c.index.ensures.value, c.len.ensures, f.sizes.ok.0)) in
    rw (← c.self.view_is, pages_in f user) (no_segment user (get_or f.sizes.items user 0) c.args.segment none)
