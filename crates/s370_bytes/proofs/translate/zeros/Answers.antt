use Rattle.std.proofs.Common.{arith, length, rules}
use Rattle.s370_bytes.proofs.Translated.{zeros_is}
use Rattle.s370_bytes.proofs.translate.zeros.Goals as goal

pub returns-clause-value : goal.returns-clause-value
returns-clause-value c =
    zeros_is c.args.table.now c.args.names.now (length c.args.names.now) (omega arith)
    (λ j s. c.loop-k.invariant j (omega arith)) (λ s. absurd (omega arith))

pub returns-then-table-names-ne0-clause-value : goal.returns-then-table-names-ne0-clause-value
returns-then-table-names-ne0-clause-value c =
    zeros_is c.args.table.now c.args.names.now c.loop-k.k (omega arith) c.loop-k.invariant (λ s. search rules)
