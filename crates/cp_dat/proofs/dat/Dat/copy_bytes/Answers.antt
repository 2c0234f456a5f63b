use Rattle.std.proofs.Common.{rules}
use Rattle.cp_dat.specs.Lent.{lent_bytes}
use Rattle.cp_dat.proofs.Copying.{is_chunk}
use Rattle.cp_dat.proofs.dat.Dat.copy_bytes.Goals as goal

pub returns : goal.returns
returns c =
    is_chunk (lent_bytes c.args.self.now) c.loop-index.into c.args.start c.requires.inside c.loop-index.invariant.long
    (λ k few. c.loop-index.invariant.copied k (search (rules, c.loop-index-test.false)))
