use Rattle.std.proofs.Common.{ℕ, arith, subst, sym}
use Rattle.cp_dat.specs.Lent.{lent_memory}
use Rattle.cp_ccw.specs.CachedPages.{ArePlaced}
use Rattle.cp_ccw.proofs.Knowing.{data_held}
use Rattle.cp_ccw.proofs.direct.know.Goals as goal

pub places_of-requires : goal.places_of-requires
places_of-requires c = λ page there inside.
    data_held c.args.dat.now c.args.caw.address c.args.pages.now page c.requires.held c.requires.pages_only there inside

pub invariant_of-result : goal.invariant_of-result
invariant_of-result c =
    let d = c.args.dat.now in
    let sized = d.sized in
    let pages = d.whole in
    let size = c.size.ensures.bytes in
    record {
      memory = lent_memory d;
      pages = c.args.pages.now;
      fixed = c.requires.fixed;
      sized = sym c.size.ensures.bytes;
      whole = omega (arith, sized, pages, size);
      text_is = c.requires.text;
      text_only = c.requires.only;
      paged = c.requires.pages;
      paged_only = c.requires.pages_only;
      placed = subst (λ (n : ℕ). ArePlaced n c.args.pages.now c.in_ok-held.held.items) (sym c.size.ensures.bytes)
          c.in_ok-held.ensures.placed;
      placed_only = c.in_ok-held.ensures.only;
    }
