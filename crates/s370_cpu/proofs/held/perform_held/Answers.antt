use Rattle.std.proofs.Common.{◌≡◌, ℕ, Bool, Ok, rules}
use Rattle.s370_rows.specs.declared.ending.Completion.TheVariants.{Done}
use Rattle.s370_rows.specs.declared.instruction.Instruction.{Instruction}
use Rattle.s370_rows.specs.declared.place.Place.{Place}
use Rattle.s370_rows.specs.Rows.{MeetsRow}
use Rattle.s370_rows.specs.State.{State, state_of}
use Rattle.s370_cpu.specs.Table.{row_of}
use Rattle.s370_cpu.proofs.held.perform_held.Goals as goal

-- What refused a row over held blocks has changed nothing.
from_before : (m m1 m2 : State) (present present1 : ℕ → Bool) (place : Place) (i i1 : Instruction) → m1 ≡ m
    → i1 ≡ i → MeetsRow (row_of m1 place i1) present1 m1 (Ok Done) m2
    → MeetsRow (row_of m place i) present m (Ok Done) m2
from_before m m1 m2 present present1 place i i1 e q h = rw (e, q) at h

pub returns-then-perform_string-clause-row : goal.returns-then-perform_string-clause-row
returns-then-perform_string-clause-row g c =
    from_before (state_of c.args.cpu.now (g.S.Storage.memory c.args.storage.now))
    (state_of c.perform.new.cpu (g.S.Storage.memory c.perform.new.storage)) _
    (g.S.Storage.present c.args.storage.now) (g.S.Storage.present c.perform.new.storage) c.args.place c.args.i _
    (search rules) (search rules)
    (c.perform_string.ensures.done c.args.place (search rules))
