use Rattle.unit_record.proofs.Commands.{writes_one_line, writes_two_lines, writes_on}
use Rattle.unit_record.proofs.laws.written_text_is_kept.Goals as goal

pub returns-clause-one_line : goal.returns-clause-one_line
returns-clause-one_line c = writes_one_line

pub returns-clause-two_lines : goal.returns-clause-two_lines
returns-clause-two_lines c = writes_two_lines

pub returns-clause-on : goal.returns-clause-on
returns-clause-on c = writes_on
