use Rattle.std.proofs.Common.{rules, ◌≡◌, ◌≤◌, ◌-◌, ◌++◌, [], ◌∷◌, ◌∙◌, ap, sym, arith, codes, decimal, length}
use Rattle.std.proofs.Common.{replicate}
use Rattle.cp_console.proofs.Joined.{closed, zeros}
use Rattle.cp_console.proofs.texts.add_closed.Goals as goal

pub returns-clause-items : goal.returns-clause-items
returns-clause-items c =
    let digits : c.as_bytes-digits.result.now ≡ decimal c.args.file =
    c.as_bytes-digits.ensures.value ∙ c.format.ensures.text in
    let few : 4 - length (decimal c.args.file) ≤ 4 = omega arith in
    let lack : c.saturating_sub-zeros.result ≡ 4 - length (decimal c.args.file) = search rules in
    rw (
      c.add-4.ensures.items,
      c.add-3.ensures.items,
      c.add-2.ensures.items,
      c.add.ensures.items,
      lack,
      digits,
      zeros (4 - length (decimal c.args.file)) few,
    )
    (closed c.args.text.now.items (codes "FILE ") (replicate (4 - length (decimal c.args.file)) 48)
    (decimal c.args.file) (codes " CLOSED"))
