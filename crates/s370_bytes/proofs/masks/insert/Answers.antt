use Rattle.std.proofs.Common.{◌≡◌, arith, rules, true}
use Rattle.s370_bytes.specs.Masks.{is_chosen}
use Rattle.s370_bytes.proofs.Masked.{place_inside, inserted_is}
use Rattle.s370_bytes.proofs.masks.insert.Goals as goal

pub bounds-from-place : goal.bounds-from-place
bounds-from-place c =
    let chosen : is_chosen c.args.mask c.loop-k.k ≡ true = search rules in
    omega (arith, place_inside c.args.mask c.loop-k.k c.loop-k-test.true chosen)

pub returns : goal.returns
returns c =
    inserted_is c.args.mask c.args.bytes.now c.args.from.now c.loop-k.bytes c.loop-k.invariant.size
    (λ j s. c.loop-k.invariant.made j (omega arith))
