use Rattle.std.proofs.Common.{length, refl}
use Rattle.cp_needs.proofs.Tables.{fault_verdict}
use Rattle.cp_needs.proofs.Standing.{not_refused}
use Rattle.cp_needs.proofs.kept.is_as_it_stood.Goals as goal

pub returns-in-Err-clause-other : goal.returns-in-Err-clause-other
returns-in-Err-clause-other g c = λ stood.
    absurd (not_refused (length (g.S.Storage.memory c.args.storage.now).bytes)
    (g.S.Storage.memory c.args.storage.now).keys (g.S.Storage.present c.args.storage.now) c.args.word.now.start
    c.in-Err.field-0
    (fault_verdict _ _ _ _ _ c.check.result c.in-Err.field-0 c.in-Err.field-0 c.in-Err.is refl c.check.ensures) stood.0)
