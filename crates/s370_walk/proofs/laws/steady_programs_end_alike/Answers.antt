use Rattle.s370_walk.proofs.Freezing.{steady_ends}
use Rattle.s370_walk.proofs.laws.steady_programs_end_alike.Goals as goal

pub returns : goal.returns
returns g c = λ form h began s t steady r. steady_ends form h began s t steady r
