use Rattle.std.proofs.Common.{rules, arith, ◌≡◌, length}
use Rattle.s370_bytes.proofs.Masked.{at_most_four, inserted_front}
use Rattle.s370_bytes.proofs.masks.insert_front.Goals as goal

pub insert-requires : goal.insert-requires
insert-requires c =
    let eight : length c.args.from ≡ 8 = search rules in
    omega (arith, eight, at_most_four c.args.mask)

pub returns : goal.returns
returns c = rw inserted_front (search rules)
