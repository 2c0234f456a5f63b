use Rattle.bare_installation.proofs.Lives.{throughout}
use Rattle.bare_installation.proofs.bare.attention_agrees_throughout.Goals as goal

pub returns : goal.returns
returns c = throughout
