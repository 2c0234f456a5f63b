use Rattle.std.proofs.Common.{◌≡◌, ◌<◌, length, get_or, None, ap, sym, arith}
use Rattle.std.proofs.lemmas.List.{get_or_past}
use Rattle.cp_frames.specs.Layout.{frame_of}
use Rattle.cp_frames.specs.Tables.{page_entry}
use Rattle.cp_frames.proofs.Mapped.{past_none}
use Rattle.cp_frames.proofs.Inside.{page_within}
use Rattle.cp_frames.proofs.pool.Frames.page_entry.Goals as goal

pub returns-then-index-len : goal.returns-then-index-len
returns-then-index-len c =
    let f = c.self.inside in
    let user = c.args.user in
    let in_user : user < length f.sizes.items =
    omega (arith, c.if-index-len.true, c.index.ensures.value, c.len.ensures, f.sizes.ok.0) in
    rw (
      ← c.self.view_is,
      c.half_at.ensures,
      c.deref.ensures.value,
      c.page_place.ensures,
      c.index-then-index-len.ensures.value,
    )
    (c.self.invariant.mapped.pages user c.args.page.0 in_user c.requires)

pub returns-else-index-len : goal.returns-else-index-len
returns-else-index-len c =
    let f = c.self.inside in
    let user = c.args.user in
    let none : get_or f.sizes.items user 0 ≡ 0 =
    get_or_past f.sizes.items user 0
    (omega (arith, c.if-index-len.false, c.index.ensures.value, c.len.ensures, f.sizes.ok.0)) in
    let nowhere : frame_of f.owners.items user c.args.page.0 ≡ None =
    past_none f.owners.items user c.args.page.0 (get_or f.sizes.items user 0) (page_within f user c.self.invariant)
    (omega (arith, none)) in
    rw (← c.self.view_is) (sym (ap page_entry nowhere))
