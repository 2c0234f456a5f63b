use Rattle.std.proofs.Common.{rules, ◌≡◌, ◌+◌, arith, replicate, length}
use Rattle.std.proofs.lemmas.List.{length-map}
use Rattle.cp_frames.proofs.Rounds.{none_pinned, none_at_first}
use Rattle.cp_frames.proofs.pins.FramePins.clear.Goals as goal

pub returns-then-self : goal.returns-then-self
returns-then-self c =
    let p = c.self.inside in
    let zeros : c.fill.new.self.items ≡ replicate (length p.rounds.items) 0 = search rules in
    rw (zeros, ← c.self.view_is, length-map) (none_at_first (length p.rounds.items))

pub returns-else-self : goal.returns-else-self
returns-else-self c =
    let p = c.self.inside in
    rw (← c.self.view_is, length-map)
    (none_pinned p.rounds.items p.present (p.present + 1) c.self.invariant.1 (omega arith))
