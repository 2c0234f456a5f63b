use Rattle.unit_record.proofs.Commands.{punches_one_card, keeps_eighty_bytes}
use Rattle.unit_record.proofs.laws.a_punch_adds_one_card.Goals as goal

pub returns-clause-one : goal.returns-clause-one
returns-clause-one c = punches_one_card

pub returns-clause-whole : goal.returns-clause-whole
returns-clause-whole c = keeps_eighty_bytes
