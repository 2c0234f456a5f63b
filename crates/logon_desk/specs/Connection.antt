-- A connection, and how far whoever is there has come.
use Rattle.std.specs.Prelude.{ℕ, ◌+◌, ◌-◌, ◌==◌, if◌then◌else◌, min, [], Some}
use Rattle.std.specs.Prelude.{None}
use Rattle.terminal_lines.specs.Decoder.{nothing_typed}
use Rattle.logon_desk.specs.declared.connection.LogonStep.{LogonStep}
use Rattle.logon_desk.specs.declared.connection.Connection.{Connection}
use Rattle.logon_desk.specs.declared.connection.Patience.{Patience}
use Rattle.logon_desk.specs.declared.connection.Stage.{Stage}
use Rattle.logon_desk.specs.declared.connection.Stage.TheVariants.{Gone, Naming, Asking, Waiting}
use Rattle.logon_desk.specs.declared.connection.Stage.TheVariants.{Judged}
use Rattle.logon_desk.specs.declared.connection.Stage.TheVariants.{Refused, On}
use Rattle.logon_desk.specs.declared.output.Notice.TheVariants.{EnterPassword, NoPassword}
use Rattle.logon_desk.specs.declared.output.Notice.TheVariants.{PasswordTaken}
use Rattle.logon_desk.specs.declared.output.Notice.TheVariants.{TypeLogon}
use Rattle.terminal_lines.specs.declared.words.Said.{Said}
use Rattle.terminal_lines.specs.declared.words.Said.TheVariants.{Both, Name, Word, Other}

-- no connection
abbrev pub gone : Connection
gone = record {
  stage = Gone;
  decoder = nothing_typed;
  waiting = [];
  patience = record { deadline = 0; left = 0; due = 0; tries = 0 };
  address = 0;
}

-- a connection that has come from an address: he has 60 seconds to log on
abbrev pub opened : ℕ → ℕ → Connection
opened address now = record {
  stage = Naming;
  decoder = nothing_typed;
  waiting = [];
  patience = record { deadline = now + 60000; left = 0; due = 0; tries = 0 };
  address = address;
}

-- what comes of a line of somebody who is about to log on. A name and its password are in one line
-- or in two; nothing else is a guess
abbrev pub after_line : Stage → Said → LogonStep
after_line Naming (Both guess) = record { stage = Waiting guess; notice = None }
after_line Naming (Name name) = record { stage = Asking name; notice = Some EnterPassword }
after_line Naming (Word word) = record { stage = Naming; notice = Some TypeLogon }
after_line Naming Other = record { stage = Naming; notice = Some TypeLogon }
after_line (Asking name) (Word password) =
    record {
      stage = Waiting (record { name = name; password = password });
      notice = Some PasswordTaken;
    }
after_line (Asking name) (Both guess) = record { stage = Naming; notice = Some NoPassword }
after_line (Asking name) (Name other) = record { stage = Naming; notice = Some NoPassword }
after_line (Asking name) Other = record { stage = Naming; notice = Some NoPassword }
after_line Gone said = record { stage = Gone; notice = None }
after_line (Waiting guess) said = record { stage = Waiting guess; notice = None }
after_line (Judged guess) said = record { stage = Judged guess; notice = None }
after_line Refused said = record { stage = Refused; notice = None }
after_line (On user) said = record { stage = On user; notice = None }

-- a guess waits for its turn from now on, and he keeps the time that he has left
abbrev pub begun : Patience → ℕ → Patience
begun p now = record p { left = p.deadline - now; due = now }

-- how many milliseconds a guess waits after this many wrong ones
abbrev pub pause_of : ℕ → ℕ
pause_of tries = if tries == 0 then 500 else (if tries == 1 then 1000 else 2000)

-- a wrong guess is answered later each time
abbrev pub refused : Patience → ℕ → Patience
refused p now = record p { due = now + pause_of p.tries; tries = min (p.tries + 1) 255 }

-- he may try again in the time that he had left
abbrev pub again : Patience → ℕ → Patience
again p now = record p { deadline = now + min p.left 60000 }
