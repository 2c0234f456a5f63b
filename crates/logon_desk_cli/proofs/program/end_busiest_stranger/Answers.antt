use Rattle.std.proofs.Common.{[], ◌∷◌, arith, inr, refl}
use Rattle.logon_desk.specs.Desk.{Closes}
use Rattle.logon_desk_cli.proofs.Running.{does-one}
use Rattle.logon_desk_cli.proofs.Writing.{no-strangers}
use Rattle.logon_desk_cli.proofs.program.end_busiest_stranger.Goals as goal

pub returns-in_ok-close-in-Some-clause-room : goal.returns-in_ok-close-in-Some-clause-room
returns-in_ok-close-in-Some-clause-room c = (
  Closes c.in-Some.place ∷ [],
  inr (c.in-Some.place, omega arith, c.in-Some.ensures.busiest, refl),
  does-one c.args.desk.now (Closes c.in-Some.place) c.args.out.now c.close.new.out c.close.new.self
      c.in_ok-close-in-Some.ensures,
)

-- of 80 somebody is a stranger
pub returns-in-None-clause-room : goal.returns-in-None-clause-room
returns-in-None-clause-room c = absurd (omega (arith, no-strangers c.args.desk.now.connections c.in-None.ensures.none))
