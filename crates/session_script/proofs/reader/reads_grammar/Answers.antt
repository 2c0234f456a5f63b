use Rattle.session_script.proofs.Grammars.{reads}
use Rattle.session_script.proofs.reader.reads_grammar.Goals as goal

pub returns : goal.returns
returns c = reads
