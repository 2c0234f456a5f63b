use Rattle.std.proofs.Common.{◌≤◌, ◌≡◌, ◌∙◌, sym, length, arith, Some, false}
use Rattle.s370_channel.specs.Guest.{guest_text}
use Rattle.cp_needs.specs.Table.{leads_next, leads_skipped}
use Rattle.cp_needs.proofs.Closures.{followed_reached, next_reached, skipped_reached}
use Rattle.cp_needs.proofs.Tables.{copied_by, followed_grows, grown_on}
use Rattle.cp_needs.proofs.copying.copy_word.Goals as goal

pub returns-clause-row : goal.returns-clause-row
returns-clause-row g c =
    let m = g.S.Storage.memory c.args.storage.now in
    let is : guest_text m c.args.place.address ≡ Some c.in-Some.word = sym c.in-Ok.ensures.word ∙ c.in-Some.is in
    let room : length c.link-2.new.places.items ≤ 2147483648 = omega
    (arith, c.in-Ok-link-2.ensures.count, c.in-Ok-link.ensures.count, c.requires.few, c.link-2.new.places.ok.0) in
    record {
      copied = copied_by c.link.new.places.items c.link-2.new.places.items m c.args.place.address c.in-Some.word
          c.in-Ok-link.next c.in-Ok-link-2.skipped (followed_grows _ _ _ _ c.in-Ok-link-2.ensures.followed) room is
          (rw (c.leads_on.ensures, c.next_of.ensures.address) at c.in-Ok-link.ensures.linked)
          (rw c.may_skip.ensures at c.in-Ok-link-2.ensures.linked);
      list = c.in-Ok-list_for.ensures.list;
    }

pub returns-clause-grown : goal.returns-clause-grown
returns-clause-grown g c =
    grown_on c.args.places.now.items c.link.new.places.items c.link-2.new.places.items
    (followed_grows _ _ _ _ c.in-Ok-link.ensures.followed) (followed_grows _ _ _ _ c.in-Ok-link-2.ensures.followed)

pub returns-clause-reached : goal.returns-clause-reached
returns-clause-reached g c = λ start there all.
    let m = g.S.Storage.memory c.args.storage.now in
    let place = c.args.place in
    let w = c.in-Some.word in
    let text : guest_text m place.address ≡ Some w = sym c.in-Ok.ensures.word ∙ c.in-Some.is in
    followed_reached m start (leads_skipped w) (record { address = w.skipped; continues = false })
    c.link.new.places.items c.link-2.new.places.items (rw c.may_skip.ensures at c.in-Ok-link-2.ensures.followed)
    (skipped_reached m start place w text there)
    (followed_reached m start (leads_next w) c.next_of.result c.args.places.now.items c.link.new.places.items
    (rw c.leads_on.ensures at c.in-Ok-link.ensures.followed)
    (next_reached m start place w text there c.next_of.result c.next_of.ensures.address c.next_of.ensures.role) all)
