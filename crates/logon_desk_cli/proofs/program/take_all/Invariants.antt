use Rattle.std.proofs.Common.{◌-◌}
use Rattle.logon_desk_cli.proofs.Running.{Leads}
use Rattle.logon_desk_cli.specs.Events.{run, takes}
use Rattle.logon_desk_cli.proofs.program.take_all.Given as goal

-- the bytes that may still be taken lead to the same
abbrev pub invariant-loop-taken : goal.invariant-loop-taken
invariant-loop-taken l =
    Leads (run l.fn.desk (takes 4096 l.fn.desk l.place l.now)) l.fn.out l.desk l.out
    (takes (4096 - l.taken) l.desk l.place l.now)
