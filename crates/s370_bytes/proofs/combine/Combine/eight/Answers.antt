use Rattle.s370_bytes.specs.declared.combine.Combine.TheVariants.{Move, MoveNumerics, MoveZones, And, Or, ExclusiveOr}
use Rattle.s370_bytes.proofs.Eight.{combined_eight}
use Rattle.s370_bytes.proofs.combine.Combine.eight.Goals as goal

pub returns-in-Move : goal.returns-in-Move
returns-in-Move c k l = rw c.in-Move.is (combined_eight Move c.args.x c.args.y k l)

pub returns-in-MoveNumerics : goal.returns-in-MoveNumerics
returns-in-MoveNumerics c k l = rw c.in-MoveNumerics.is (combined_eight MoveNumerics c.args.x c.args.y k l)

pub returns-in-MoveZones : goal.returns-in-MoveZones
returns-in-MoveZones c k l = rw c.in-MoveZones.is (combined_eight MoveZones c.args.x c.args.y k l)

pub returns-in-And : goal.returns-in-And
returns-in-And c k l = rw c.in-And.is (combined_eight And c.args.x c.args.y k l)

pub returns-in-Or : goal.returns-in-Or
returns-in-Or c k l = rw c.in-Or.is (combined_eight Or c.args.x c.args.y k l)

pub returns-in-ExclusiveOr : goal.returns-in-ExclusiveOr
returns-in-ExclusiveOr c k l = rw c.in-ExclusiveOr.is (combined_eight ExclusiveOr c.args.x c.args.y k l)
