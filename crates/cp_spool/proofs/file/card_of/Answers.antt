use Rattle.cp_spool.proofs.Cards.{covered}
use Rattle.cp_spool.proofs.file.card_of.Goals as goal

pub returns : goal.returns
returns c = covered c.args.bytes.now c.copy_from_slice.new.self c.min-punched.result c.min-punched.ensures
    c.copy_from_slice.ensures.after
