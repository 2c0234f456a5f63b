use Rattle.std.proofs.Common.{arith, ◌≡◌, ◌+◌, ◌-◌, ◌/◌, true, sym, ◌∙◌}
use Rattle.s370_store.proofs.Verdicts.{ends_here}
use Rattle.cp_ccw.specs.Shown.{is_real_page_of}
use Rattle.cp_ccw.proofs.real.RealStorage.check.Goals as goal

pub returns : goal.returns
returns c =
    let first_here : is_real_page_of c.args.self.now (c.args.range.start / 4096) ≡ true =
    sym c.is_here.ensures ∙ c.if-not-is_here.false in
    let last_here : is_real_page_of c.args.self.now ((c.args.range.start + (c.args.range.count - 1)) / 4096) ≡ true =
    sym c.is_here-2.ensures ∙ c.if-not-is_here-2.false in
    let g = c.in_ok-test_range.ensures.1.0 (omega arith) in
    rw (← c.size.ensures.bytes) (
      c.in_ok-test_range.ensures.0,
      (
        λ some. record {
          inside = g.inside;
          here = ends_here (is_real_page_of c.args.self.now) _ _ _ (omega arith) (omega arith) first_here last_here;
        },
        tt,
      ),
    )
