use Rattle.std.proofs.Common.{arith, ◌≡◌, ◌+◌, ◌-◌, ◌/◌, true, sym, ◌∙◌, ap, Option, ℕ}
use Rattle.std.specs.Prelude.{is_some}
use Rattle.s370_store.proofs.Verdicts.{ends_here}
use Rattle.cp_dat.specs.Lent.{is_lent_page}
use Rattle.cp_dat.proofs.dat.DatStorage.check.Goals as goal

pub returns : goal.returns
returns c =
    let first_here : is_lent_page c.args.self.now (c.args.range.start / 4096) ≡ true =
    ap (λ (o : Option ℕ). is_some o) c.in-Some.ensures.there in
    let last_here : is_lent_page c.args.self.now ((c.args.range.start + (c.args.range.count - 1)) / 4096) ≡ true =
    sym c.is_there.ensures ∙ c.if-not-is_there.false in
    let g = c.in_ok-test_range.ensures.1.0 (omega arith) in
    rw (← c.args.self.now.sized) (
      c.in_ok-test_range.ensures.0,
      (
        λ some. record {
          inside = g.inside;
          here = ends_here (is_lent_page c.args.self.now) _ _ _ (omega arith) (omega arith) first_here last_here;
        },
        tt,
      ),
    )
