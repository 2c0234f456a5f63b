use Rattle.s370_cpu.proofs.WholeTable.{changed_bytes_were_tested, storage_keeps_its_size}
use Rattle.s370_cpu.proofs.laws.changed_bytes_were_tested.Goals as goal

pub returns-clause-bytes : goal.returns-clause-bytes
returns-clause-bytes c = changed_bytes_were_tested

pub returns-clause-size : goal.returns-clause-size
returns-clause-size c = storage_keeps_its_size
