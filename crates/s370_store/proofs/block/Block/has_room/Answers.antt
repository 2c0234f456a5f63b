use Rattle.std.proofs.Common.{arith}
use Rattle.std.proofs.lemmas.Bool.{leb-true}
use Rattle.s370_store.proofs.Blocks.{even_below}
use Rattle.s370_store.proofs.block.Block.has_room.Goals as goal

pub returns-clause-begins : goal.returns-clause-begins
returns-clause-begins c e =
    let n = even_below _ _ c.rotate_right.ensures (leb-true _ _ e) in
    omega (arith, n.0)

pub returns-clause-ends : goal.returns-clause-ends
returns-clause-ends c e =
    let n = even_below _ _ c.rotate_right.ensures (leb-true _ _ e) in
    omega (arith, n.0)

pub returns-clause-even : goal.returns-clause-even
returns-clause-even c e =
    let n = even_below _ _ c.rotate_right.ensures (leb-true _ _ e) in
    omega (arith, n.0, n.1)
