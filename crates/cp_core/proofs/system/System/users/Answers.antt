use Rattle.std.proofs.Common.{◌≡◌, ap, arith, length}
use Rattle.cp_core.specs.System.{SystemView}
use Rattle.cp_core.proofs.Systems.{length-users}
use Rattle.cp_core.specs.UserMachines.{seats_on}
use Rattle.cp_core.proofs.Owned.{length-seats}
use Rattle.cp_core.proofs.system.System.users.Goals as goal

pub returns-clause-value : goal.returns-clause-value
returns-clause-value c =
    let same : length (seats_on c.self.inside.queues c.self.inside.users.items) ≡ length c.self.inside.frames.storages =
    omega (arith, c.self.invariant.0.whole.seated, c.self.invariant.0.whole.stored) in
    let all = length-users (seats_on c.self.inside.queues c.self.inside.users.items) c.self.inside.volumes
    c.self.inside.frames.storages same in
    omega (
      arith,
      all,
      ap (λ (s : SystemView). length s.users) c.self.view_is,
      c.self.inside.users.ok.0,
      length-seats c.self.inside.queues c.self.inside.users.items,
      c.len.ensures,
    )
