use Rattle.machine_devices.proofs.Written.{closed_files_stay, do_not_matter_to_life}
use Rattle.machine_devices.proofs.laws.written_files_do_not_matter.Goals as goal

pub returns-clause-lives : goal.returns-clause-lives
returns-clause-lives c = do_not_matter_to_life

pub returns-clause-stays : goal.returns-clause-stays
returns-clause-stays c = closed_files_stay
