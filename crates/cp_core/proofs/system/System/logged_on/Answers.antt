use Rattle.std.proofs.Common.{◌∙◌, ap, arith, rules}
use Rattle.cp_core.specs.System.{SystemView, logged_on_of}
use Rattle.cp_core.proofs.Systems.{modes_of}
use Rattle.cp_core.specs.UserMachines.{seats_on}
use Rattle.cp_core.proofs.Owned.{modes_on}
use Rattle.cp_core.proofs.system.System.logged_on.Goals as goal

pub returns : goal.returns
returns c =
    let whole = c.self.invariant.0.whole in
    rw (
      ← ap (λ (s : SystemView). logged_on_of s.users) c.self.view_is,
      ← modes_of (seats_on c.self.inside.queues c.self.inside.users.items) c.self.inside.volumes
          c.self.inside.frames.storages (omega (arith, whole.seated, whole.stored)),
      modes_on c.self.inside.queues c.self.inside.users.items,
    ) (search rules)
