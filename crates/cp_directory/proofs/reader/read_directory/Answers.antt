use Rattle.std.proofs.Common.{arith}
use Rattle.std.proofs.lemmas.Grind.{common_steps}
use Rattle.cp_directory.proofs.Laws.{lawful}
use Rattle.cp_directory.proofs.reader.read_directory.Goals as goal

pub returns-clause-lawful : goal.returns-clause-lawful
returns-clause-lawful c = lawful c.args.text.now _ (grind (arith, common_steps))
