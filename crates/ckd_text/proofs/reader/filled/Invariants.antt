use Rattle.std.proofs.Common.{◌≡◌, ◌≤◌, ◌+◌, length}
use Rattle.text_words.specs.Lines.{lines_of, read_lines}
use Rattle.ckd_text.specs.Text.{MayRefuseMemory, line_step}
use Rattle.ckd_text.proofs.reader.filled.Given as goal

-- the lines that are left add to the volume what all of them add to the blank one
abbrev pub invariant-loop-rest : goal.invariant-loop-rest
invariant-loop-rest l = record {
  so_far : read_lines line_step 2 l.fn.blank (lines_of l.lines) ≡ read_lines line_step l.number l.volume
      (lines_of l.rest);
  memory : MayRefuseMemory l.volume (lines_of l.rest) → MayRefuseMemory l.fn.blank (lines_of l.lines);
  numbered : l.number + length l.rest ≤ length l.lines + 2;
}

abbrev pub decreases-loop-rest : goal.decreases-loop-rest
decreases-loop-rest l = length l.rest
