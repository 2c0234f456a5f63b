use Rattle.cp_directory.proofs.Grammars.{reads}
use Rattle.cp_directory.proofs.reader.reads_grammar.Goals as goal

pub returns : goal.returns
returns c = reads
