use Rattle.std.proofs.Common.{◌≡◌, ◌∙◌, ◌==◌, ap, arith, map, ℕ, Bool, List}
use Rattle.std.proofs.Math.ListN.{set}
use Rattle.std.proofs.lemmas.Bool.Decides.{nat_tests}
use Rattle.std.proofs.lemmas.List.{map-set}
use Rattle.cp_frames.proofs.pins.FramePins.set.Goals as goal

pub returns-then-is_pinned : goal.returns-then-is_pinned
returns-then-is_pinned c =
    let p = c.self.inside in
    let is : ℕ → Bool = λ round. round == p.present in
    let flag : is p.present ≡ c.args.is_pinned = grind (arith, nat_tests) in
    map-set is p.rounds.items c.args.frame p.present ∙ ap (set (map is p.rounds.items) c.args.frame) flag
    ∙ ap (λ (pins : List Bool). set pins c.args.frame c.args.is_pinned) c.self.view_is

pub returns-else-is_pinned : goal.returns-else-is_pinned
returns-else-is_pinned c =
    let p = c.self.inside in
    let is : ℕ → Bool = λ round. round == p.present in
    let some = c.self.invariant.0 in
    let flag : is 0 ≡ c.args.is_pinned = grind (arith, nat_tests) in
    map-set is p.rounds.items c.args.frame 0 ∙ ap (set (map is p.rounds.items) c.args.frame) flag
    ∙ ap (λ (pins : List Bool). set pins c.args.frame c.args.is_pinned) c.self.view_is
