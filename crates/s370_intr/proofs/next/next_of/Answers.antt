use Rattle.std.proofs.Common.{sym}
use Rattle.s370_intr.proofs.next.next_of.Goals as goal

pub returns-then-is_plain : goal.returns-then-is_plain
returns-then-is_plain c m = sym (c.requires m c.if-is_plain.true)
