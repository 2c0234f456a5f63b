use Rattle.std.proofs.Common.{◌≡◌, ◌∙◌, ◌<◌, ◌≤◌, ◌+◌, ◌++◌, Some, None, List, ℕ, true, take, drop, length, get_or}
use Rattle.std.proofs.Common.{refl, ap, sym, subst, rules, arith}
use Rattle.std.specs.List.{position}
use Rattle.cp_dispatch.specs.Policy.{same_user}
use Rattle.cp_dispatch.proofs.Places.{without_placed, without_unplaced}
use Rattle.cp_dispatch.proofs.policy.take_out_user.Goals as goal

pub returns-in-Some-clause-items : goal.returns-in-Some-clause-items
returns-in-Some-clause-items c =
    let place : position (same_user c.args.user) c.args.users.now.items ≡ Some c.in-Some.place = ap
    (position (same_user c.args.user)) (sym c.deref.ensures.value) ∙ (sym c.place_of_user.ensures ∙ c.in-Some.is) in
    c.remove.ensures.items ∙ sym (without_placed (same_user c.args.user) c.args.users.now.items c.in-Some.place 0 place)

pub returns-in_default-clause-items : goal.returns-in_default-clause-items
returns-in_default-clause-items c =
    let place : position (same_user c.args.user) c.args.users.now.items ≡ None = ap (position (same_user c.args.user))
    (sym c.deref.ensures.value) ∙ (sym c.place_of_user.ensures ∙ c.in_default.is) in
    sym (without_unplaced (same_user c.args.user) c.args.users.now.items place)
