use Rattle.s370_bytes.proofs.Eight.{front_byte, other_byte}
use Rattle.s370_bytes.proofs.combine.with_front.Goals as goal

pub returns-clause-front : goal.returns-clause-front
returns-clause-front c k l =
    front_byte c.args.bytes c.args.front c.args.count k c.ranges.bytes.fits c.ranges.front.fits c.requires.few l

pub returns-clause-rest : goal.returns-clause-rest
returns-clause-rest c k l =
    other_byte c.args.bytes c.args.front c.args.count k c.ranges.bytes.fits c.ranges.front.fits l
