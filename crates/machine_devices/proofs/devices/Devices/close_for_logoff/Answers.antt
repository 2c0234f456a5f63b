use Rattle.machine_devices.specs.Lent.{KeepsOtherUsers}
use Rattle.machine_devices.proofs.Beside.{beside_on, beside_same}
use Rattle.machine_devices.proofs.devices.Devices.close_for_logoff.Goals as goal

pub returns-clause-other_users : goal.returns-clause-other_users
returns-clause-other_users c =
    beside_on _ _ _ _ _ _
    (beside_on _ _ _ _ _ _
    (beside_on _ _ _ _ _ _ (beside_same c.args.self.now c.args.queues.now c.make_room_for_open.new.queues
    c.make_room_for_open.ensures.users) c.close_punch_reserved.ensures.other_users)
    c.close_printer_reserved.ensures.other_users)
    c.put_back.ensures.other_users
