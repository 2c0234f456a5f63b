use Rattle.std.proofs.Common.{arith, ◌<◌, length, get_or}
use Rattle.std.proofs.lemmas.List.{get_or_default}
use Rattle.std.proofs.lemmas.List.Edits.{map_over_more}
use Rattle.cp_core.specs.Forgotten.{seat_unprinted}
use Rattle.cp_core.proofs.forgetting.forget_each.Goals as goal

pub loop-user-preserved : goal.loop-user-preserved
loop-user-preserved c =
    let items = c.loop-user.users in
    let k = c.loop-user.user-index in
    let x = get_or items k c.user-item.result in
    let lt : k < length items = omega arith in
    rw c.forget_lines.ensures
    (map_over_more seat_unprinted c.args.users.now items k x c.loop-user-test.true c.loop-user.invariant
    (get_or_default items k c.user-item.result x lt))
