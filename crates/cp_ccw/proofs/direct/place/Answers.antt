use Rattle.std.proofs.Common.{arith, refl, sym}
use Rattle.cp_ccw.proofs.Knowing.{one_placed}
use Rattle.cp_ccw.proofs.direct.place.Goals as goal

pub returns : goal.returns
returns c = record {
  placed = one_placed c.args.dat.now c.args.page _ _ _ c.in_ok-push-in-Some.ensures.items refl (
    omega (arith, c.if-from.false, c.from.ensures, c.from-2.ensures, c.size.ensures.bytes),
    sym c.in-Some.ensures.frame,
  );
}
