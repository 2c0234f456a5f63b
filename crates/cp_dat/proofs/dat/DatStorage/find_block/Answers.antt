use Rattle.std.proofs.Common.{arith, ◌≡◌, ◌*◌, ◌/◌, ap, Option, ℕ}
use Rattle.std.specs.Prelude.{is_some}
use Rattle.cp_dat.proofs.dat.DatStorage.find_block.Goals as goal

pub returns-in-Some-clause-may_access : goal.returns-in-Some-clause-may_access
returns-in-Some-clause-may_access c =
    let d = c.args.self.now in
    let block : c.args.start / 2048 * 2048 / 2048 ≡ c.args.start / 2048 = omega arith in
    record {
      aligned = omega arith;
      inside = rw (← d.sized) (c.may_access_block.ensures.inside c.if-not-may_access_block.false);
      passed = rw block (c.may_access_block.ensures.passed c.if-not-may_access_block.false);
      here = ap (λ (o : Option ℕ). is_some o) c.in-Some.ensures.there;
    }
