use Rattle.std.proofs.Common.{◌≡◌, ◌^◌, add-zero, arith, false, refl}
use Rattle.std.specs.Prelude.{pos, ◌*ℤ◌}
use Rattle.s370_rows.specs.Arithmetic.{fits_word, signed}
use Rattle.s370_rows.proofs.Shifts.{far_lost, far_low}
use Rattle.s370_rows.proofs.shift.shift_left_far.Goals as goal

pub returns : goal.returns
returns c =
    let e : fits_word (signed c.args.a *ℤ pos (2 ^ c.args.count)) ≡ false =
    far_lost c.args.a c.args.count (omega arith) (omega arith) c.requires.far in
    rw (e, far_low c.args.a c.args.count (omega (arith, c.requires.far)), add-zero) refl
