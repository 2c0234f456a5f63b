use Rattle.machine_devices.proofs.Copies.{same}
use Rattle.machine_devices.proofs.spooling.copy_of.Goals as goal

pub returns : goal.returns
returns c = c.in_ok-copy.ensures.items_if_clones_equal (λ x y h. same x y h.whole)
