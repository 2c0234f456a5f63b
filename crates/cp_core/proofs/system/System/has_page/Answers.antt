use Rattle.std.proofs.Common.{◌≡◌, ◌∙◌, ap, arith, length, List, ℕ}
use Rattle.std.proofs.lemmas.Bool.Decides.{nat_tests}
use Rattle.cp_core.specs.System.{SystemView, machine_at}
use Rattle.cp_core.proofs.Systems.{bytes_are}
use Rattle.cp_core.specs.UserMachines.{seats_on}
use Rattle.cp_core.proofs.system.System.has_page.Goals as goal

pub returns-clause-inside : goal.returns-clause-inside
returns-clause-inside c =
    let bytes = (machine_at c.args.self.now c.args.user).core.processor.bytes in
    let same = bytes_are (seats_on c.self.inside.queues c.self.inside.users.items) c.self.inside.volumes
    c.self.inside.frames.storages c.self.inside.directory c.args.self.now.users c.args.user c.self.invariant.0.whole
    (ap (λ (s : SystemView). s.users) c.self.view_is) (omega arith) in
    let size : c.size.result ≡ length bytes = c.size.ensures.bytes ∙ ap (λ (xs : List ℕ). length xs) same in
    grind (arith, nat_tests)
