use Rattle.s370_bytes.proofs.Masked.{at_most_four, table_is}
use Rattle.s370_bytes.proofs.masks.chosen_count.Goals as goal

pub returns-clause-value : goal.returns-clause-value
returns-clause-value c = table_is c.args.mask

pub returns-clause-few : goal.returns-clause-few
returns-clause-few c = rw (table_is c.args.mask) (at_most_four c.args.mask)
