use Rattle.std.proofs.Common.{◌∙◌, ap, arith, List, ℕ}
use Rattle.std.specs.Prelude.{slice_get}
use Rattle.cp_core.specs.System.{SystemView}
use Rattle.cp_core.proofs.Systems.{bytes_are}
use Rattle.cp_core.specs.UserMachines.{seats_on}
use Rattle.cp_core.proofs.system.System.storage.Goals as goal

pub returns : goal.returns
returns c =
    c.byte.ensures ∙ ap (λ (bytes : List ℕ). slice_get bytes c.args.address)
    (bytes_are (seats_on c.self.inside.queues c.self.inside.users.items) c.self.inside.volumes
    c.self.inside.frames.storages c.self.inside.directory c.args.self.now.users c.args.user c.self.invariant.0.whole
    (ap (λ (s : SystemView). s.users) c.self.view_is) (omega arith))
