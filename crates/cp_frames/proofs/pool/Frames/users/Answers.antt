use Rattle.std.proofs.Common.{arith}
use Rattle.cp_frames.proofs.Inside.{users_in}
use Rattle.cp_frames.proofs.pool.Frames.users.Goals as goal

pub returns-clause-value : goal.returns-clause-value
returns-clause-value c = rw (← c.self.view_is) (let many = users_in c.self.inside in omega (arith, many))

pub returns-clause-few : goal.returns-clause-few
returns-clause-few c = let few = c.self.invariant.mapped.users in omega (arith, few)
