use Rattle.cp_console.proofs.FileTexts.{four_digits}
use Rattle.sessions.proofs.files.number_text.Goals as goal

pub returns : goal.returns
returns c = rw (c.laid_out.ensures, four_digits c.args.number) at c.format.ensures.ok
