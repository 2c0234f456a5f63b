use Rattle.unit_record.proofs.DeckReads.{reads_decks_in_order}
use Rattle.unit_record.proofs.laws.decks_are_read_in_order.Goals as goal

pub returns : goal.returns
returns c = reads_decks_in_order
