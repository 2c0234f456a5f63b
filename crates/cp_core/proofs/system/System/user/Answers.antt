use Rattle.std.proofs.Common.{◌∙◌, ap, arith, get_or, List, ℕ, sym}
use Rattle.machine_devices.specs.Devices.{DevicesValue}
use Rattle.machine_devices.specs.Equipped.{Equipped, nobody}
use Rattle.cp_core.specs.System.{SystemView}
use Rattle.cp_core.specs.UserMachines.{seat_on, seat_with, seats_on, user_with}
use Rattle.cp_core.proofs.Systems.{is_user, seat_is}
use Rattle.cp_core.proofs.Owned.{length-seats, seat_here}
use Rattle.cp_core.proofs.system.System.user.Goals as goal

pub index-requires : goal.index-requires
index-requires c =
    let inside = is_user (seats_on c.self.inside.queues c.self.inside.users.items) c.self.inside.volumes
    c.self.inside.frames.storages c.self.inside.directory c.args.self.now.users c.index-place.result
    c.self.invariant.0.whole (ap (λ (s : SystemView). s.users) c.self.view_is) (omega arith) in
    omega (
      arith,
      inside,
      c.self.invariant.0.whole.seated,
      c.self.inside.users.ok.0,
      length-seats c.self.inside.queues c.self.inside.users.items,
    )

pub returns-clause-user : goal.returns-clause-user
returns-clause-user c =
    let place = c.index-place.result in
    let seat = seat_on c.self.inside.queues c.index.result.now in
    let here = seat_here c.self.inside.queues c.self.inside.users.items place c.index.result.now c.index.ensures in
    let bytes : List ℕ = (get_or c.args.self.now.users place nobody).machine.core.processor.bytes in
    rw (← c.index-place.ensures.value)
    (seat_is (seats_on c.self.inside.queues c.self.inside.users.items) c.self.inside.volumes
    c.self.inside.frames.storages c.self.inside.directory c.args.self.now.users place seat c.self.invariant.0.whole
    (ap (λ (s : SystemView). s.users) c.self.view_is) (omega arith) here
    ∙ ap (λ (s : SystemView). user_with seat s.volumes bytes) c.self.view_is
    ∙ ap (λ (d : DevicesValue). user_with (seat_with d c.index.result.now) c.args.self.now.volumes bytes)
    (sym (ap (λ (e : Equipped). e.devices)
    (seat_is (seats_on c.self.inside.queues c.self.inside.users.items) c.self.inside.volumes
    c.self.inside.frames.storages c.self.inside.directory c.args.self.now.users place seat c.self.invariant.0.whole
    (ap (λ (s : SystemView). s.users) c.self.view_is) (omega arith) here))))
