use Rattle.cp_needs.proofs.Slotting.{set_in}
use Rattle.cp_needs.proofs.slots.Slots.set.Goals as goal
use Rattle.cp_needs.proofs.slots.Slots.set.Goals.{in-Ok, in-Err}

pub returns-clause-ok : goal.returns-clause-ok
returns-clause-ok c = elim c.match-insert.branch [
  | in-Ok w ↦ rw w.result-is (set_in c.self.inside.count c.args.slot c.args.number c.self.inside.held c.insert.new.self
      c.args.self.now c.self.view_is c.requires w.in-Ok.ensures.updates)
  | in-Err w ↦ rw w.result-is tt
]
