use Rattle.std.proofs.Common.{◌≡◌, ◌∙◌, ◌<◌, ◌≤◌, Some, None, List, ℕ, refl, ap, sym, subst, arith, length-append}
use Rattle.cp_dispatch.proofs.Queues.{empty}
use Rattle.cp_dispatch.proofs.policy.Policy.new.Goals as goal

pub invariant_of-result : goal.invariant_of-result
invariant_of-result c = (
  rw c.in_ok-with_capacity.ensures.items (empty c.args.users),
  omega (arith, c.in_ok-with_capacity.ensures.exact),
)
