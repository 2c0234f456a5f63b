use Rattle.std.proofs.Common.{◌-◌, arith, sym, ◌∙◌}
use Rattle.logon_desk_cli.specs.Events.{run, takes}
use Rattle.logon_desk_cli.proofs.Running.{taken-end, taken-more, taken-stop}
use Rattle.logon_desk_cli.proofs.program.take_all.Goals as goal

pub loop-taken-preserved : goal.loop-taken-preserved
loop-taken-preserved c =
    taken-more (run c.args.desk.now (takes 4096 c.args.desk.now c.args.place c.args.now)) c.args.out.now
    c.loop-taken.out c.take.new.out
    c.loop-taken.desk c.take.new.self 4096 c.loop-taken.taken c.args.place c.args.now (omega arith)
    (sym c.takes_next.ensures.value ∙ c.if-not-takes_next.false) c.loop-taken.invariant c.in_ok-take.ensures

pub returns-then-not-takes_next : goal.returns-then-not-takes_next
returns-then-not-takes_next c =
    taken-stop (run c.args.desk.now (takes 4096 c.args.desk.now c.args.place c.args.now)) c.args.out.now
    c.loop-taken.out
    c.loop-taken.desk (4096 - c.loop-taken.taken) c.args.place c.args.now
    (sym c.takes_next.ensures.value ∙ c.if-not-takes_next.true) c.loop-taken.invariant

pub returns : goal.returns
returns c =
    taken-end (run c.args.desk.now (takes 4096 c.args.desk.now c.args.place c.args.now)) c.args.out.now c.loop-taken.out
    c.loop-taken.desk (4096 - c.loop-taken.taken) c.args.place c.args.now (omega arith) c.loop-taken.invariant
