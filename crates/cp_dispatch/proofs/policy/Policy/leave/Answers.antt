use Rattle.std.proofs.Common.{◌≡◌, ◌∙◌, ◌<◌, ◌≤◌, Some, None, List, ℕ, refl, ap, sym, subst, arith, length-append}
use Rattle.cp_dispatch.specs.Policy.{same_user}
use Rattle.cp_dispatch.proofs.Queues.{left}
use Rattle.cp_dispatch.proofs.policy.Policy.leave.Goals as goal

pub invariant_of-self : goal.invariant_of-self
invariant_of-self c = (
  rw c.take_out_user.ensures.items (left
      (same_user c.args.user) c.self.inside.users.items c.self.inside.most_users c.self.invariant.0),
  omega (arith, c.self.invariant.1, c.take_out_user.ensures.capacity),
)

pub returns : goal.returns
returns c = rw (c.take_out_user.ensures.items, ← c.self.view_is) refl
