use Rattle.std.proofs.Common.{All, length, take}
use Rattle.cp_dat.specs.Lent.{lent_bytes}
use Rattle.cp_ccw.specs.CachedProgram.{IsFrame}
use Rattle.cp_ccw.specs.CachedPages.{ArePlaced, ArePlacedOnly}
use Rattle.cp_ccw.proofs.direct.places_of.Given as goal

abbrev pub invariant-loop-page : goal.invariant-loop-page
invariant-loop-page l = record {
  placed : ArePlaced (length (lent_bytes l.dat)) (take l.page-index l.pages) l.held.items;
  only : ArePlacedOnly (take l.page-index l.pages) l.held.items;
  stand : All (IsFrame l.dat) l.held.items;
}
