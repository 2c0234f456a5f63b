use Rattle.std.proofs.Common.{rules, arith, ◌*ℤ◌, FitsSigned}
use Rattle.std.specs.Int.{w64}
use Rattle.std.proofs.lemmas.Int.{to_z-of_z}
use Rattle.s370_rows.specs.Arithmetic.{signed}
use Rattle.s370_rows.proofs.product.product.Goals as goal

pub returns : goal.returns
returns c =
    let a : FitsSigned w64 (signed c.args.a) = search rules in
    let b : FitsSigned w64 (signed c.args.b) = search rules in
    let p : FitsSigned w64 (signed c.args.a *ℤ signed c.args.b) = search rules in
    grind (arith, to_z-of_z)
