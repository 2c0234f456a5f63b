-- The users.
use Rattle.std.specs.Prelude.{ℕ, false, List, [], None, nat_lt, if◌then◌else◌, length, drop}
use Rattle.logon_desk.specs.declared.account.Account.{Account}
use Rattle.logon_desk.specs.declared.account.KeptLine.{KeptLine}

-- of more than 24 lines the oldest goes
abbrev pub last_lines : List KeptLine → List KeptLine
last_lines lines = if nat_lt 24 (length lines) then drop 1 lines else lines

-- a user whose machine is off
abbrev pub new_account : List ℕ → Account
new_account name = record {
  name = name;
  terminal = None;
  is_on = false;
  is_running = false;
  is_busy = false;
  kept = [];
}
