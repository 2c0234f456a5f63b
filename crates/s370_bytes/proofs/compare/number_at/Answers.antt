use Rattle.std.proofs.Common.{ap}
use Rattle.s370_bytes.specs.Strings.{number}
use Rattle.s370_bytes.proofs.Fronts.{front_of_range}
use Rattle.s370_bytes.proofs.compare.number_at.Goals as goal

pub returns : goal.returns
returns g c =
    rw (c.front_number.ensures, c.load.ensures) (ap number
    (front_of_range (g.S.Storage.memory c.args.storage.now).bytes c.args.start c.args.count c.requires.few))
