use Rattle.std.proofs.Common.{rules}
use Rattle.s370_bytes.proofs.Fronts.{front_is}
use Rattle.s370_bytes.proofs.compare.front_number.Goals as goal

pub returns : goal.returns
returns c = rw c.from_be_bytes.ensures (front_is c.args.bytes c.args.count (search rules) c.requires
    (λ j. search rules))
