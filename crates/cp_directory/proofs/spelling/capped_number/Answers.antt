use Rattle.std.proofs.Common.{arith}
use Rattle.cp_directory.proofs.Numbers.{capped_more}
use Rattle.cp_directory.proofs.spelling.capped_number.Goals as goal

pub loop-digit-preserved : goal.loop-digit-preserved
loop-digit-preserved c = record {
  so_far = capped_more c.args.digits.now c.loop-digit.digit-index c.loop-digit.number c.min-number.result _
      c.loop-digit-test.true c.loop-digit.invariant.so_far (omega arith);
  small = omega arith;
}
