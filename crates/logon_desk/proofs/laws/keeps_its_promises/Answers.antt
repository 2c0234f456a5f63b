use Rattle.logon_desk.proofs.Lawful.{authority, bounds, completeness, isolation, secrets, turns, waiting}
use Rattle.logon_desk.proofs.laws.keeps_its_promises.Goals as goal

pub returns : goal.returns
returns c = record {
  authority = authority;
  isolation = isolation;
  completeness = completeness;
  secrets = secrets;
  turns = turns;
  waiting = waiting;
  bounds = bounds;
}
