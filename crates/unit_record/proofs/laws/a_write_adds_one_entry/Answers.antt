use Rattle.unit_record.proofs.Commands.{prints_one_entry}
use Rattle.unit_record.proofs.laws.a_write_adds_one_entry.Goals as goal

pub returns : goal.returns
returns c = prints_one_entry
