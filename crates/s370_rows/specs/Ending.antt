-- How an instruction ends that was carried out.
use Rattle.s370_rows.specs.declared.ending.Completion.{Completion}
use Rattle.s370_rows.specs.declared.ending.Completion.TheVariants.{Done, Branch, Again, Interrupted}
use Rattle.s370_rows.specs.declared.ending.Completion.TheVariants.{SupervisorCall, InputOutput}

-- the processor goes on after it, and nothing else follows
abbrev pub GoesOn : Completion → Type 0
GoesOn Done = Unit {0}
GoesOn (Branch a) = Unit {0}
GoesOn Again = Unit {0}
GoesOn (Interrupted code) = ⊥
GoesOn (SupervisorCall n) = ⊥
GoesOn (InputOutput operation device) = ⊥
