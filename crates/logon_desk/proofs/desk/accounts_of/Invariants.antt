use Rattle.std.proofs.Common.{◌≡◌, map, take}
use Rattle.logon_desk.specs.Account.{new_account}
use Rattle.logon_desk.proofs.desk.accounts_of.Given as goal

-- the users so far have accounts
abbrev pub invariant-loop-name : goal.invariant-loop-name
invariant-loop-name l = l.accounts.items ≡ map new_account (take l.name-index l.names)
