use Rattle.std.proofs.Common.{◌∙◌, sym}
use Rattle.cp_needs.proofs.Noting.{marks_entry}
use Rattle.cp_needs.proofs.notes.note_entry.Goals as goal

pub returns-in_ok-push : goal.returns-in_ok-push
returns-in_ok-push c =
    record {
      marked = marks_entry c.args.word.now c.args.number c.list_address.result _ _
          (sym c.has.ensures ∙ c.if-has.true) c.requires.has c.list_address.ensures c.in_ok-push.ensures.items;
    }
