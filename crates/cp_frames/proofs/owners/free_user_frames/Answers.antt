use Rattle.std.proofs.Common.{◌≡◌, ◌<◌, ◌+◌, ◌∙◌, List, Option, None, get_or, length, arith, ap, sym}
use Rattle.std.proofs.Math.ListN.{set}
use Rattle.std.proofs.lemmas.List.{get_or_read}
use Rattle.cp_frames.specs.declared.numbers.UserPage.{UserPage}
use Rattle.cp_frames.specs.Layout.{frame_entry, IsMapped, IsTabled}
use Rattle.cp_frames.proofs.Layouts.{frame_found}
use Rattle.cp_frames.proofs.Leaves.{left_all, left_by, left_more, left_none, left_same, looked_more, mapped_more}
use Rattle.cp_frames.proofs.Leaves.{next_entry, next_none, next_there}
use Rattle.cp_frames.proofs.owners.free_user_frames.Goals.{then-entry-ne-ABSENT, else-entry-ne-ABSENT}
use Rattle.cp_frames.proofs.owners.free_user_frames.Goals as goal

pub loop-page-init : goal.loop-page-init
loop-page-init c = record {
  owners = sym (left_none c.args.user c.args.owners.now.items);
  mapped = c.requires.mapped;
  looked = c.requires.looked;
}

pub index-entry-requires : goal.index-entry-requires
index-entry-requires c =
    let user = c.args.user in
    let page = c.loop-page.page in
    let was = c.args.owners.now.items in
    let sizes = c.args.sizes.now in
    let lookup = c.loop-page.lookup.items in
    let lt : page < get_or sizes user 0 = omega (arith, c.pages_of-page-end.ensures, c.loop-page-test.true) in
    let looked : IsTabled frame_entry (left_by user page was) sizes lookup =
    rw c.loop-page.invariant.owners at c.loop-page.invariant.looked in
    let at = next_entry user page was (left_by user page was) sizes lookup c.requires.pages looked lt in
    omega (arith, at.room, c.loop-page.lookup.ok.0, c.entry_of.ensures)

pub index_mut-requires : goal.index_mut-requires
index_mut-requires c =
    let user = c.args.user in
    let page = c.loop-page.page in
    let was = c.args.owners.now.items in
    let sizes = c.args.sizes.now in
    let lookup = c.loop-page.lookup.items in
    let lt : page < get_or sizes user 0 = omega (arith, c.pages_of-page-end.ensures, c.loop-page-test.true) in
    let looked : IsTabled frame_entry (left_by user page was) sizes lookup =
    rw c.loop-page.invariant.owners at c.loop-page.invariant.looked in
    let at = next_entry user page was (left_by user page was) sizes lookup c.requires.pages looked lt in
    let read = get_or_read lookup _ _ at.room (rw c.entry_of.ensures at c.index-entry.ensures) 0 in
    let entry = c.index-entry.result.now in
    let tells = next_there user page entry (left_by user page was) sizes lookup looked at read c.if-entry-ne-ABSENT.true
    in
    let within = (frame_found (left_by user page was) user page tells.frame tells.there).within in
    omega (
      arith,
      within,
      ap length c.loop-page.invariant.owners,
      c.loop-page.owners.ok.0,
      c.frame_in.ensures tells.frame tells.low tells.reported,
    )

pub unmap_page-requires-clause-tables : goal.unmap_page-requires-clause-tables
unmap_page-requires-clause-tables c =
    let user = c.args.user in
    let page = c.loop-page.page in
    let was = c.args.owners.now.items in
    let sizes = c.args.sizes.now in
    let lookup = c.loop-page.lookup.items in
    let lt : page < get_or sizes user 0 = omega (arith, c.pages_of-page-end.ensures, c.loop-page-test.true) in
    let looked : IsTabled frame_entry (left_by user page was) sizes lookup =
    rw c.loop-page.invariant.owners at c.loop-page.invariant.looked in
    let at = next_entry user page was (left_by user page was) sizes lookup c.requires.pages looked lt in
    omega (arith, at.of_user, at.of_page, c.loop-page.invariant.mapped.room)

pub unmap_page-requires-clause-lookup : goal.unmap_page-requires-clause-lookup
unmap_page-requires-clause-lookup c =
    let user = c.args.user in
    let page = c.loop-page.page in
    let was = c.args.owners.now.items in
    let sizes = c.args.sizes.now in
    let lookup = c.loop-page.lookup.items in
    let lt : page < get_or sizes user 0 = omega (arith, c.pages_of-page-end.ensures, c.loop-page-test.true) in
    let looked : IsTabled frame_entry (left_by user page was) sizes lookup =
    rw c.loop-page.invariant.owners at c.loop-page.invariant.looked in
    let at = next_entry user page was (left_by user page was) sizes lookup c.requires.pages looked lt in
    at.room

pub loop-page-preserved : goal.loop-page-preserved
loop-page-preserved c =
    let user = c.args.user in
    let page = c.loop-page.page in
    let was = c.args.owners.now.items in
    let sizes = c.args.sizes.now in
    let lookup = c.loop-page.lookup.items in
    let lt : page < get_or sizes user 0 = omega (arith, c.pages_of-page-end.ensures, c.loop-page-test.true) in
    let looked : IsTabled frame_entry (left_by user page was) sizes lookup =
    rw c.loop-page.invariant.owners at c.loop-page.invariant.looked in
    let at = next_entry user page was (left_by user page was) sizes lookup c.requires.pages looked lt in
    let read = get_or_read lookup _ _ at.room (rw c.entry_of.ensures at c.index-entry.ensures) 0 in
    let entry = c.index-entry.result.now in
    let mapped : IsMapped (left_by user page was) sizes c.loop-page.tables.items =
    rw c.loop-page.invariant.owners at c.loop-page.invariant.mapped in
    elim c.if-entry-ne-ABSENT.branch [
      | then-entry-ne-ABSENT w ↦
          (let tells = next_there user page entry (left_by user page was) sizes lookup looked at read
          w.if-entry-ne-ABSENT.true in
          let frame = tells.frame in
          let there = tells.there in
          let owners : set c.loop-page.owners.items frame None ≡ left_by user (page + 1) was =
          ap (λ (os : List (Option UserPage)). set os frame None) c.loop-page.invariant.owners ∙ sym
          (left_more user page frame was c.requires.pages.once there) in
          rw (
            w.owners-is,
            w.tables-is,
            w.lookup-is,
            w.unmap_page.ensures.tables,
            w.unmap_page.ensures.lookup,
            w.frame_in.ensures tells.frame tells.low tells.reported,
          )
          (record {
            owners = owners;
            mapped = rw owners (mapped_more user page frame was sizes c.loop-page.tables.items c.requires.pages mapped
                there);
            looked = rw owners (looked_more user page frame was sizes lookup c.requires.pages looked there);
          }))
      | else-entry-ne-ABSENT w ↦
          (let nowhere = next_none user page entry (left_by user page was) sizes lookup looked at read
          w.if-entry-ne-ABSENT.false in
          let owners : c.loop-page.owners.items ≡ left_by user (page + 1) was =
          c.loop-page.invariant.owners ∙ sym (left_same user page was nowhere) in
          rw (w.owners-is, w.tables-is, w.lookup-is)
          (record {
            owners = owners;
            mapped = c.loop-page.invariant.mapped;
            looked = c.loop-page.invariant.looked;
          }))
    ]

pub returns-clause-owners : goal.returns-clause-owners
returns-clause-owners c =
    let user = c.args.user in
    let all : c.loop-page.page ≡ get_or c.args.sizes.now user 0 =
    omega (arith, c.pages_of-page-end.ensures, c.loop-page-test.false, c.loop-page.auto.page-end) in
    c.loop-page.invariant.owners ∙ ap (λ n. left_by user n c.args.owners.now.items) all ∙ left_all user
    c.args.owners.now.items c.args.sizes.now c.requires.pages
