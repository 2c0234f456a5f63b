use Rattle.std.proofs.Common.{[], ◌∷◌, arith}
use Rattle.logon_desk.specs.Desk.{Wakes}
use Rattle.logon_desk_cli.specs.Events.{takes}
use Rattle.logon_desk_cli.proofs.Running.{does-one, does-then, wakes-nowhere}
use Rattle.logon_desk_cli.proofs.program.serve_place.Goals as goal

pub returns-in_ok-wake : goal.returns-in_ok-wake
returns-in_ok-wake c =
    does-then c.args.desk.now (takes 4096 c.args.desk.now c.args.place c.args.now) (Wakes c.args.place c.args.now ∷ [])
    c.args.out.now c.take_all.new.out c.wake.new.out c.take_all.new.desk c.wake.new.self c.in_ok-take_all.ensures
    (does-one c.take_all.new.desk (Wakes c.args.place c.args.now) c.take_all.new.out c.wake.new.out c.wake.new.self
    c.in_ok-wake.ensures)

-- nothing is due at a place that is not there
pub returns-else-place-connections : goal.returns-else-place-connections
returns-else-place-connections c =
    does-then c.args.desk.now (takes 4096 c.args.desk.now c.args.place c.args.now) (Wakes c.args.place c.args.now ∷ [])
    c.args.out.now c.take_all.new.out c.take_all.new.out c.take_all.new.desk c.take_all.new.desk
    c.in_ok-take_all.ensures
    (does-one c.take_all.new.desk (Wakes c.args.place c.args.now) c.take_all.new.out c.take_all.new.out
    c.take_all.new.desk
    (wakes-nowhere c.take_all.new.desk c.args.place c.args.now c.take_all.new.out (omega arith)))
