use Rattle.std.proofs.Common.{◌≡◌, []}
use Rattle.text_words.specs.Lines.{lines_of, read_lines}
use Rattle.cp_directory.specs.Directories.{MayRefuseMemory, directory_of, directory_step}
use Rattle.cp_directory.proofs.reader.read_directory.Given as goal

abbrev pub invariant-loop-line : goal.invariant-loop-line
invariant-loop-line l = record {
  -- what is left to read adds to what was read as the whole does
  so_far : directory_of l.text ≡ read_lines directory_step l.line-iterator.number l.directory
      l.line-iterator.lines;
  -- a line that is left and takes memory is a line of the text that does
  memory : MayRefuseMemory l.line-iterator.number l.directory l.line-iterator.lines
      → MayRefuseMemory 1 [] (lines_of l.text);
}
