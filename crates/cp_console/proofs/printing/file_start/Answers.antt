use Rattle.cp_console.proofs.FileTexts.{four_digits}
use Rattle.cp_console.proofs.printing.file_start.Goals as goal

pub returns : goal.returns
returns c = rw (c.laid_out.ensures, four_digits c.args.file) at c.format.ensures.ok
