use Rattle.unit_record.proofs.Seen.{views_console, views_printer, views_punch}
use Rattle.unit_record.proofs.trials.trials_view_their_devices.Goals as goal

pub returns-clause-console : goal.returns-clause-console
returns-clause-console c = views_console

pub returns-clause-punch : goal.returns-clause-punch
returns-clause-punch c = views_punch

pub returns-clause-printer : goal.returns-clause-printer
returns-clause-printer c = views_printer
