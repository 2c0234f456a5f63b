use Rattle.std.proofs.Common.{◌≡◌, ◌∙◌, ℕ, None, ap, length, replicate}
use Rattle.std.proofs.lemmas.List.{length-set}
use Rattle.cp_resident.proofs.Emptied.{all_none, more_none, none_each}
use Rattle.cp_resident.proofs.reuse.empty_disks.Goals as goal

pub places-preserved : goal.places-preserved
places-preserved c = (
  more_none c.places.disks c.places.place c.places-test.true c.places.invariant.0,
  length-set c.places.disks c.places.place None ∙ c.places.invariant.1,
)

pub returns : goal.returns
returns c = none_each c.places.disks (all_none c.places.disks c.places.place c.places-test.false c.places.invariant.0) ∙
    ap (λ (n : ℕ). replicate n None) c.places.invariant.1
