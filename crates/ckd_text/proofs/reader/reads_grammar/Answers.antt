use Rattle.ckd_text.proofs.Grammars.{reads}
use Rattle.ckd_text.proofs.reader.reads_grammar.Goals as goal

pub returns : goal.returns
returns c = reads
