use Rattle.std.proofs.Common.{◌-◌, length}
use Rattle.logon_desk_cli.proofs.Running.{Leads}
use Rattle.logon_desk_cli.specs.Events.{all_served, run, served_from}
use Rattle.logon_desk_cli.proofs.program.serve.Given as goal

-- the places that are left lead to the same
abbrev pub invariant-loop-place : goal.invariant-loop-place
invariant-loop-place l =
    Leads (run l.fn.desk (all_served l.fn.desk l.now)) l.fn.out l.desk l.out
    (served_from (length l.fn.desk.connections - l.place) l.desk l.place l.now)
