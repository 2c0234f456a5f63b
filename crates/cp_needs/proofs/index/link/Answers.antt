use Rattle.std.proofs.Common.{◌≡◌, ◌≤◌, ◌∙◌, sym, arith, length, true, false}
use Rattle.cp_needs.proofs.Tables.{linked_past}
use Rattle.cp_needs.proofs.index.link.Goals as goal
use Rattle.cp_needs.proofs.index.link.Goals.{else-leads-via-then-leads+else-place-size, else-leads-via-else-leads}

pub returns-clause-linked : goal.returns-clause-linked
returns-clause-linked g c =
    let m = g.S.Storage.memory c.args.storage.now in
    let few : length c.args.places.now.items ≤ 2147483648 = omega (arith, c.requires.few, c.args.places.now.ok.0) in
    linked_past c.args.places.now.items m c.args.leads c.args.place.address few
    (elim c.else-leads.branch [
      | else-leads-via-then-leads+else-place-size w ↦ λ e. omega (arith, w.size.ensures, w.if-place-size.false)
      | else-leads-via-else-leads w ↦ λ e. (let f : true ≡ false = sym e ∙ w.if-leads.false in cc)
    ])
