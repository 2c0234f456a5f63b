use Rattle.std.proofs.Common.{List, length, subst}
use Rattle.std.proofs.lemmas.List.{take_all}
use Rattle.s370_store.specs.declared.Page.{Page}
use Rattle.cp_dat.specs.Lent.{lent_bytes}
use Rattle.cp_ccw.specs.CachedPages.{ArePlaced, ArePlacedOnly}
use Rattle.cp_ccw.proofs.Knowing.{only_more, placed_more}
use Rattle.cp_ccw.proofs.direct.places_of.Goals as goal

pub loop-page-preserved : goal.loop-page-preserved
loop-page-preserved c = record {
  placed = placed_more c.args.dat.now c.args.pages.now c.loop-page.page-index _ c.loop-page.held.items
      c.place.new.held.items c.loop-page-test.true c.loop-page.invariant.placed c.in_ok-place.ensures.placed;
  only = only_more c.args.dat.now c.args.pages.now c.loop-page.page-index _ c.loop-page.held.items
      c.place.new.held.items c.loop-page-test.true c.loop-page.invariant.only c.in_ok-place.ensures.placed;
  stand = c.in_ok-place.ensures.placed.stand c.loop-page.invariant.stand;
}

pub returns-clause-placed : goal.returns-clause-placed
returns-clause-placed c =
    subst (λ (pages : List Page). ArePlaced (length (lent_bytes c.args.dat.now)) pages c.loop-page.held.items)
    (take_all c.loop-page.page-index c.args.pages.now c.loop-page-test.false) c.loop-page.invariant.placed

pub returns-clause-only : goal.returns-clause-only
returns-clause-only c = subst (λ (pages : List Page). ArePlacedOnly pages c.loop-page.held.items)
    (take_all c.loop-page.page-index c.args.pages.now c.loop-page-test.false) c.loop-page.invariant.only
