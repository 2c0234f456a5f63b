use Rattle.session_script.specs.Users.{names_of}
use Rattle.session_script.proofs.Sought.{from_first}
use Rattle.session_script.proofs.user.user_of.Goals as goal

pub loop-number-init : goal.loop-number-init
loop-number-init g c = from_first (names_of (g.U.ScriptUsers.known c.args.users.now)) c.args.name.now
