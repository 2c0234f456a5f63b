use Rattle.std.proofs.Common.{◌∙◌, List, ap, length, sym, ℕ}
use Rattle.cp_needs.proofs.Slotting.{as_many}
use Rattle.cp_needs.proofs.slots.Slots.count.Goals as goal

pub returns : goal.returns
returns c = sym (as_many 0 c.self.inside.count _) ∙ ap (λ (numbers : List ℕ). length numbers) c.self.view_is
