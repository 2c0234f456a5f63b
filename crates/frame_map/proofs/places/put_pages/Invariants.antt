use Rattle.std.proofs.Common.{◌≡◌}
use Rattle.frame_map.specs.Places.{place_in, put_pages}
use Rattle.frame_map.proofs.places.put_pages.Given as goal

abbrev pub invariant-loop-page : goal.invariant-loop-page
invariant-loop-page l = l.places ≡ put_pages (place_in l.system l.kind l.user) l.user l.page l.fn.places
