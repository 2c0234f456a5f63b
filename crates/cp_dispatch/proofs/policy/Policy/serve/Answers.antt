use Rattle.std.proofs.Common.{◌≡◌, ◌∙◌, ◌<◌, ◌≤◌, ◌+◌, ◌++◌, Some, None, List, ℕ, true, take, drop, length, get_or}
use Rattle.std.proofs.Common.{refl, ap, sym, subst, rules, arith}
use Rattle.std.proofs.lemmas.Bool.Decides.{nat_tests}
use Rattle.cp_dispatch.specs.Policy.{Lines, always}
use Rattle.cp_dispatch.proofs.Fair.{forward}
use Rattle.cp_dispatch.proofs.Places.{taken_first}
use Rattle.cp_dispatch.proofs.policy.Policy.serve.Goals as goal

pub returns-clause-dealt : goal.returns-clause-dealt
returns-clause-dealt c =
    let known = ap (λ (s : Lines). s.programs) c.self.view_is in
    let size : 0 < length c.self.inside.programs.items = grind
    (arith, nat_tests, c.is_empty.ensures, c.if-is_empty.false, c.self.inside.programs.ok.0) in
    rw (sym known) (taken_first always c.self.inside.programs.items c.index-program.result.now
    c.rotate_left.new.self.items size refl c.index-program.ensures c.rotate_left.ensures.items)
