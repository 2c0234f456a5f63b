use Rattle.std.proofs.Common.{◌-◌, arith, length}
use Rattle.logon_desk_cli.specs.Events.{all_served, run}
use Rattle.logon_desk_cli.proofs.Running.{served-end, served-more}
use Rattle.logon_desk_cli.proofs.program.serve.Goals as goal

pub loop-place-preserved : goal.loop-place-preserved
loop-place-preserved c =
    served-more (run c.args.desk.now (all_served c.args.desk.now c.args.now)) c.args.out.now c.loop-place.out
    c.serve_place.new.out
    c.loop-place.desk c.serve_place.new.desk (length c.args.desk.now.connections) c.loop-place.place c.args.now
    (omega arith)
    c.loop-place.invariant c.in_ok-serve_place.ensures

pub returns : goal.returns
returns c =
    served-end (run c.args.desk.now (all_served c.args.desk.now c.args.now)) c.args.out.now c.loop-place.out
    c.loop-place.desk (length c.args.desk.now.connections - c.loop-place.place) c.loop-place.place c.args.now
    (omega arith)
    c.loop-place.invariant
