use Rattle.cp_frames.specs.Layout.{slot_entry}
use Rattle.cp_frames.proofs.Tables.{tabled-cleared}
use Rattle.cp_frames.proofs.owners.free_user_slots.Goals as goal

pub returns-clause-tabled : goal.returns-clause-tabled
returns-clause-tabled c = λ sizes tabled.
    rw c.remove_user_pages.ensures (tabled-cleared slot_entry c.args.owners.now.items sizes c.args.table.now.items
    c.clear_user_slots.new.table.items c.args.user tabled c.clear_user_slots.ensures.size
    (rw c.index.ensures.value at c.clear_user_slots.ensures.own)
    (rw c.index.ensures.value at c.clear_user_slots.ensures.others))
