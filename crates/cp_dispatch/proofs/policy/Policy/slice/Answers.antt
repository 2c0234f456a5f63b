use Rattle.std.proofs.Common.{◌≡◌, ◌<◌, ◌≤◌, ◌+◌, ◌++◌, Some, List, ℕ, Bool, take, drop, length, get_or}
use Rattle.std.proofs.Common.{ap, sym, subst, arith}
use Rattle.std.specs.List.{position}
use Rattle.std.proofs.lemmas.List.{take-append-drop}
use Rattle.std.proofs.lemmas.List.Sorted.{IsPermutation-append_comm}
use Rattle.std.specs.List.Sorted.{IsPermutation}
use Rattle.cp_dispatch.specs.Policy.{Lines}
use Rattle.cp_dispatch.specs.Turns.{IsTaken}
use Rattle.cp_dispatch.proofs.Fair.{forward}
use Rattle.cp_dispatch.proofs.Places.{taken_placed}
use Rattle.cp_dispatch.proofs.Queues.{moved}
use Rattle.cp_dispatch.proofs.policy.Policy.slice.Goals as goal

pub invariant_of-self : goal.invariant_of-self
invariant_of-self c =
    let old = c.self.inside.users.items in
    let new = c.rotate_left.new.self.items in
    let k = c.args.place + 1 in
    let turned : IsPermutation (take k old ++ drop k old) new = subst
    (λ (l : List ℕ). IsPermutation (take k old ++ drop k old) l) (sym c.rotate_left.ensures.items)
    (IsPermutation-append_comm (take k old) (drop k old)) in
    let same : IsPermutation old new = subst (λ (l : List ℕ). IsPermutation l new) (take-append-drop k old) turned in (
      moved old new c.self.inside.most_users same c.self.invariant.0,
      omega (arith, c.self.invariant.1, c.rotate_left.ensures.capacity),
    )

pub returns-clause-dealt : goal.returns-clause-dealt
returns-clause-dealt c = λ ready place.
    let known = ap (λ (s : Lines). s.users) c.self.view_is in
    rw (sym known) (taken_placed ready c.self.inside.users.items c.args.place c.index-user.result.now
    c.rotate_left.new.self.items (rw known place) c.index-user.ensures c.rotate_left.ensures.items)

pub returns-clause-forward : goal.returns-clause-forward
returns-clause-forward c = λ ready place. forward ready c.args.self.now.users
    (Some c.index-user.result.now) c.rotate_left.new.self.items (returns-clause-dealt c ready place)
