use Rattle.std.proofs.Common.{nat_eq}
use Rattle.std.specs.HashMap.{get}
use Rattle.cp_needs.proofs.Slotting.{all_zero, none_held}
use Rattle.cp_needs.proofs.slots.Slots.new.Goals as goal

pub returns : goal.returns
returns c = all_zero 0 c.args.count (get nat_eq c.new.result) (none_held c.new.result c.new.ensures.empty)
