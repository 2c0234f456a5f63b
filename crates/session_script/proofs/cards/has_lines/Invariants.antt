use Rattle.std.proofs.Common.{◌-◌, ◌≡◌, ◌≤◌, length, ◌+◌}
use Rattle.text_words.specs.Lines.{lines_of}
use Rattle.session_script.proofs.cards.has_lines.Given as goal

abbrev pub invariant-loop-found : goal.invariant-loop-found
invariant-loop-found l = record {
  lines : length (lines_of l.text) ≡ l.found + length (lines_of l.rest);
  wanted : l.found ≤ l.count;
}

abbrev pub decreases-loop-found : goal.decreases-loop-found
decreases-loop-found l = l.count - l.found
