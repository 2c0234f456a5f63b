use Rattle.bare_installation.proofs.Lives.{each}
use Rattle.bare_installation.proofs.bare.each_is_life.Goals as goal

pub returns : goal.returns
returns c = each
