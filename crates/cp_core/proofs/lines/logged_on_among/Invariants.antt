use Rattle.std.proofs.Common.{◌≡◌, map, take}
use Rattle.machine_devices.specs.UserDirectory.{is_logged_on}
use Rattle.cp_core.proofs.lines.logged_on_among.Given as goal

abbrev pub invariant-loop-user : goal.invariant-loop-user
invariant-loop-user l = l.on.items ≡ map (λ user. is_logged_on user.parts.mode) (take l.user-index l.users)
