use Rattle.std.proofs.Common.{◌∙◌, ap, nat_eq, sym}
use Rattle.std.specs.Option.{option_copied}
use Rattle.std.specs.HashMap.{get}
use Rattle.cp_needs.specs.Slots.{or_zero}
use Rattle.cp_needs.proofs.Slotting.{read_of}
use Rattle.cp_needs.proofs.slots.Slots.get.Goals as goal

pub returns-in-Some : goal.returns-in-Some
returns-in-Some c =
    sym (ap (λ o. or_zero (option_copied o)) c.in-Some.is) ∙ read_of c.self.inside.count c.args.slot
    (get nat_eq c.self.inside.held) (option_copied c.get.result) c.args.self.now c.self.view_is c.requires
    c.get.ensures.value

pub returns-in-None : goal.returns-in-None
returns-in-None c =
    sym (ap (λ o. or_zero (option_copied o)) c.in-None.is) ∙ read_of c.self.inside.count c.args.slot
    (get nat_eq c.self.inside.held) (option_copied c.get.result) c.args.self.now c.self.view_is c.requires
    c.get.ensures.value
