use Rattle.std.proofs.Common.{◌≡◌, ◌++◌, [], ◌∷◌, ◌∙◌, ap, sym, codes, decimal}
use Rattle.s370_num.specs.Address.{word_text}
use Rattle.cp_console.proofs.Joined.{counted}
use Rattle.cp_console.proofs.texts.add_control.Goals as goal

pub returns-clause-items : goal.returns-clause-items
returns-clause-items c =
    rw (
      c.add_word.ensures.items,
      c.add.ensures.items,
      c.add_counted.ensures.items,
      c.unsigned.ensures,
      c.from.ensures,
      c.number.ensures.value,
    )
    (counted c.args.text.now.items (codes "CR ") (decimal c.args.register) (codes " = ") (word_text c.args.contents))
