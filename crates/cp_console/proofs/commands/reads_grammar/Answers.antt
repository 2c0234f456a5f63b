use Rattle.cp_console.proofs.Grammars.{reads}
use Rattle.cp_console.proofs.commands.reads_grammar.Goals as goal

pub returns : goal.returns
returns c = reads
