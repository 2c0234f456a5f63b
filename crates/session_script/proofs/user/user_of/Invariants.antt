use Rattle.std.proofs.Common.{◌≡◌, drop}
use Rattle.std.specs.List.{position_from}
use Rattle.std.specs.Str.{bytes_eq}
use Rattle.user_names.specs.Users.{user_of}
use Rattle.session_script.specs.Users.{names_of}
use Rattle.session_script.proofs.user.user_of.Given as goal

abbrev pub invariant-loop-number : goal.invariant-loop-number
invariant-loop-number g l =
    let names = names_of (g.U.ScriptUsers.known l.users) in
    user_of names l.name ≡ position_from (bytes_eq l.name) l.number (drop l.number names)
