-- What a row answers whose operands are tested.
use Rattle.std.proofs.Common.{ℕ, Bool, Result, Ok, Err}
use Rattle.s370_rows.specs.declared.ending.Completion.{Completion}
use Rattle.s370_rows.specs.declared.ending.Refusal.{Refusal}
use Rattle.s370_rows.specs.State.{State}
use Rattle.s370_rows.specs.Reach.{MeetsBy}
use Rattle.s370_rows.specs.Rows.{MeetsRow, Row}

-- Where tests refuse an operand, the row is met.
pub tested_meets : (r : Row) (present : ℕ → Bool) (old : State) (result : Result Completion Refusal) (new : State)
    → MeetsBy Refusal (λ r present old why new. MeetsRow r present old (Err why) new) r present old result new
    → MeetsRow r present old result new
tested_meets r present old (Ok ending) new h = h
tested_meets r present old (Err why) new h = h
