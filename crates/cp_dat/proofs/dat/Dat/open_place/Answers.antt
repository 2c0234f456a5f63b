use Rattle.std.proofs.Common.{arith, ◌≡◌, ◌+◌, ◌/◌, ◌≤◌, true, ap, sym, Option, Some, None, ℕ}
use Rattle.std.specs.Prelude.{is_some, IfSome, IsSome}
use Rattle.s370_store.proofs.Verdicts.{inside, one_fine}
use Rattle.cp_dat.specs.Lent.{is_lent_page}
use Rattle.cp_dat.proofs.dat.Dat.open_place.Goals as goal

-- where a place was found the page is in a frame
found : (place frame : Option ℕ) → IsSome place → IfSome place (λ p. frame ≡ Some (p / 4096)) → is_some frame ≡ true
found None frame some at = cc
found (Some p) frame some at = ap (λ (o : Option ℕ). is_some o) at

pub returns-clause-granted : goal.returns-clause-granted
returns-clause-granted c = λ some.
    let d = c.args.self.now in
    let start = c.args.range.start in
    let there : is_lent_page d (start / 4096) ≡ true = found c.place_at.result _ some c.place_at.ensures.there in
    let block = c.requires.one_block in
    let room : start + c.args.range.count ≤ d.size = omega (arith, d.whole, block) in
    let passes = sym c.passes_in_block.ensures in
    rw (← d.sized) (
      one_fine _ _ _ _ (inside d.size c.args.access start c.args.range.count room)
          (rw c.if-not-passes_in_block.false at passes),
      (
        λ some. record {
          inside = room;
          here = λ k h. (let page : (start + k) / 4096 ≡ start / 4096 = omega (arith, block) in rw page there);
        },
        tt,
      ),
    )
