use Rattle.std.proofs.Common.{◌≡◌, ◌∙◌, ◌<◌, ◌≤◌, ◌+◌, ◌++◌, Some, None, List, ℕ, true, take, drop, length, get_or}
use Rattle.std.proofs.Common.{refl, ap, sym, subst, rules, arith}
use Rattle.std.specs.List.{position}
use Rattle.cp_dispatch.specs.Policy.{is_of}
use Rattle.cp_dispatch.proofs.Places.{without_placed, without_unplaced}
use Rattle.cp_dispatch.proofs.policy.take_out_program.Goals as goal

pub returns-in-Some : goal.returns-in-Some
returns-in-Some c =
    let place : position (is_of c.args.user c.args.device) c.args.programs.now.items ≡ Some c.in-Some.place = ap
    (position (is_of c.args.user c.args.device)) (sym c.deref.ensures.value)
    ∙ (sym c.place_of_program.ensures ∙ c.in-Some.is) in
    c.remove.ensures.items ∙ sym (without_placed (is_of c.args.user c.args.device) c.args.programs.now.items
    c.in-Some.place (record { user = 0; device = 0 }) place)

pub returns-in_default : goal.returns-in_default
returns-in_default c =
    let place : position (is_of c.args.user c.args.device) c.args.programs.now.items ≡ None = ap
    (position (is_of c.args.user c.args.device)) (sym c.deref.ensures.value)
    ∙ (sym c.place_of_program.ensures ∙ c.in_default.is) in
    sym (without_unplaced (is_of c.args.user c.args.device) c.args.programs.now.items place)
