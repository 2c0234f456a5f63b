use Rattle.std.proofs.Common.{◌∙◌, ap, arith, sym}
use Rattle.machine_devices.specs.Equipped.{Equipped}
use Rattle.machine_devices.specs.Lent.{devices_on}
use Rattle.cp_core.specs.System.{SystemView}
use Rattle.cp_core.specs.UserMachines.{SeatParts, seat_on, seats_on}
use Rattle.cp_core.proofs.Systems.{has_seat, seat_is}
use Rattle.cp_core.proofs.Owned.{length-seats, seat_here}
use Rattle.cp_core.proofs.system.System.devices_of.Goals as goal

pub index-requires : goal.index-requires
index-requires c =
    let inside = has_seat (seats_on c.self.inside.queues c.self.inside.users.items) c.self.inside.volumes
    c.self.inside.frames.storages c.self.inside.directory c.args.self.now.users c.args.user c.self.invariant.0.whole
    (ap (λ (s : SystemView). s.users) c.self.view_is) c.requires in omega
    (arith, inside, c.self.inside.users.ok.0, length-seats c.self.inside.queues c.self.inside.users.items)

pub returns : goal.returns
returns c =
    let there = seat_is (seats_on c.self.inside.queues c.self.inside.users.items) c.self.inside.volumes
    c.self.inside.frames.storages c.self.inside.directory c.args.self.now.users c.args.user
    (seat_on c.self.inside.queues c.index.result.now) c.self.invariant.0.whole
    (ap (λ (s : SystemView). s.users) c.self.view_is) c.requires
    (seat_here c.self.inside.queues c.self.inside.users.items c.args.user c.index.result.now c.index.ensures) in
    c.new.ensures ∙ ap (λ (u : SeatParts). devices_on u.devices c.self.inside.queues) c.behind-self.view_is ∙ sym
    (ap (λ (e : Equipped). e.devices) there)
