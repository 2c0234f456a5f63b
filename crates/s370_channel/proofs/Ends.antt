-- A first command, and then the words after it.
use Rattle.std.specs.Prelude.{◌≡◌, Result, Ok, Err, IfOk}
use Rattle.std.proofs.Common.{subst}
use Rattle.s370_walk.specs.declared.parts.Ending.{Ending}
use Rattle.s370_walk.specs.declared.parts.Progress.{Progress}
use Rattle.s370_walk.specs.declared.parts.Progress.TheVariants.{At}
use Rattle.s370_walk.specs.declared.parts.NextCcw.{NextCcw}
use Rattle.s370_store.specs.Memory.{Memory}
use Rattle.s370_walk.proofs.Reaching.{reach_on}
use Rattle.s370_walk.specs.Walk.{Form, Setting, State, Fetching, Over, Reaches, state_of}

-- A run that comes to a word comes to the fetch of that word.
pub reach_word : {D : Type 0} {form : Form} {h : Setting D} {r : State D} {progress : Progress} {spot : NextCcw}
    {m : Memory} {d : D} → progress ≡ At spot → Reaches form h r (state_of progress m d)
    → Reaches form h r (Fetching spot m d)
reach_word {form = form} {h = h} {r = r} {m = m} {d = d} is a = let P : Progress
    → Type 0 = λ x. Reaches form h r (state_of x m d) in subst P is a

-- What is reached from a later state is reached from the earlier one, if that comes to the later.
pub then_ends : {D E : Type 0} (form : Form) (h : Setting D) {r s : State D} (n : Memory) (e : D)
    (result : Result Ending E) → Reaches form h r s → IfOk result (λ ending. Reaches form h s (Over ending n e))
    → IfOk result (λ ending. Reaches form h r (Over ending n e))
then_ends form h n e (Ok ending) a b = reach_on form h a b
then_ends form h n e (Err error) a b = tt
