-- Options that words name.
use Rattle.std.proofs.Common.{◌≡◌, subst}
use Rattle.std.specs.Prelude.{IfOk, Ok, OnOk, Result}
use Rattle.std.proofs.lemmas.Result.{IfOk-at_ok}

-- Those that were found are what the words name, with which nothing is wrong.
pub named_by : {N E : Type 0} (Named : N → Type 0) (NoFault : Type 0) {result : Result N E} {options : N}
    → result ≡ Ok options → IfOk result Named → OnOk result NoFault → Named options × NoFault
named_by Named NoFault is named taken =
    (IfOk-at_ok Named is named, subst (λ found. OnOk found NoFault) is taken)
