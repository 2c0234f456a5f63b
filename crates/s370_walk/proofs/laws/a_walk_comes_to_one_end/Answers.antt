use Rattle.s370_walk.proofs.Reaching.{one_end}
use Rattle.s370_walk.proofs.laws.a_walk_comes_to_one_end.Goals as goal

pub returns : goal.returns
returns g c = λ form h s e f m n d d' a b. one_end form h s e f m n d d' a b
