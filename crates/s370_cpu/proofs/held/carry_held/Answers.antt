use Rattle.std.proofs.Common.{arith}
use Rattle.s370_cpu.proofs.Following.{follows_in}
use Rattle.s370_cpu.proofs.held.carry_held.Goals as goal

pub returns-clause-follows : goal.returns-clause-follows
returns-clause-follows g c =
    follows_in c.args.start c.get-2.result c.wrapping_add-next.result c.finish_held.result
    c.wrapping_add-next.ensures c.get-2.ensures.below (omega (arith, c.requires.low, c.requires.ends))
    c.finish_held.ensures.follows
