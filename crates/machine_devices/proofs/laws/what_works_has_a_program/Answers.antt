use Rattle.machine_devices.proofs.Working.{are_numbered, deliveries_change_none, devices_stay, go_on_having}
use Rattle.machine_devices.proofs.Working.{none_works, works_with}
use Rattle.machine_devices.proofs.laws.what_works_has_a_program.Goals as goal

pub returns-clause-first : goal.returns-clause-first
returns-clause-first c = none_works

pub returns-clause-later : goal.returns-clause-later
returns-clause-later c = go_on_having

pub returns-clause-served : goal.returns-clause-served
returns-clause-served c = works_with

pub returns-clause-devices : goal.returns-clause-devices
returns-clause-devices c = devices_stay

pub returns-clause-numbered : goal.returns-clause-numbered
returns-clause-numbered c = are_numbered

pub returns-clause-delivered : goal.returns-clause-delivered
returns-clause-delivered c = deliveries_change_none
