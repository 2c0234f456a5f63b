use Rattle.machine_devices.proofs.Turned as turned
use Rattle.machine_devices.proofs.laws.only_lines_turn.Goals as goal

pub returns : goal.returns
returns c = turned.only_lines_turn
