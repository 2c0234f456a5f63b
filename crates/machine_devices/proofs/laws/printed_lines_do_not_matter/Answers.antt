use Rattle.machine_devices.proofs.Forgotten.{do_not_matter_to_life}
use Rattle.machine_devices.proofs.laws.printed_lines_do_not_matter.Goals as goal

pub returns : goal.returns
returns c = do_not_matter_to_life
