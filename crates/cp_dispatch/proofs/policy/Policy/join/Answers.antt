use Rattle.std.proofs.Common.{◌≡◌, ◌∙◌, ◌<◌, ◌≤◌, Some, None, List, ℕ, refl, ap, sym, subst, arith, length-append}
use Rattle.cp_dispatch.specs.Policy.{Lines}
use Rattle.cp_dispatch.proofs.Queues.{come, room}
use Rattle.cp_dispatch.proofs.policy.Policy.join.Goals as goal

pub put_user-requires : goal.put_user-requires
put_user-requires c =
    let small = rw (← c.self.view_is) at c.requires in
    omega (
      arith,
      room c.args.user c.self.inside.users.items c.self.inside.most_users small c.self.invariant.0,
      c.self.invariant.1,
    )

pub invariant_of-self : goal.invariant_of-self
invariant_of-self c =
    let small = rw (← c.self.view_is) at c.requires in (
      rw c.put_user.ensures.items (come c.args.user c.self.inside.users.items c.self.inside.most_users small
          c.self.invariant.0),
      omega (arith, c.self.invariant.1, c.put_user.ensures.capacity),
    )

pub returns : goal.returns
returns c = rw (c.put_user.ensures.items, ← c.self.view_is) refl
