use Rattle.std.proofs.Common.{◌≡◌, ◌++◌, [], ◌∷◌, ◌∙◌, ap, sym, codes, ◌/◌, ◌*◌}
use Rattle.s370_num.specs.Address.{address_text, word_text}
use Rattle.cp_console.specs.Responses.{word_at}
use Rattle.cp_console.proofs.Joined.{nine}
use Rattle.cp_console.proofs.texts.add_storage.Goals as goal

pub returns-clause-items : goal.returns-clause-items
returns-clause-items c =
    let b = c.args.bytes.now in
    rw (
      c.add_word-4.ensures.items,
      c.add-4.ensures.items,
      c.add_word-3.ensures.items,
      c.add-3.ensures.items,
      c.add_word-2.ensures.items,
      c.add-2.ensures.items,
      c.add_word.ensures.items,
      c.add.ensures.items,
      c.add_address.ensures.items,
      c.word_at.ensures,
      c.word_at-2.ensures,
      c.word_at-3.ensures,
      c.word_at-4.ensures,
      c.get.ensures.value,
    )
    (nine c.args.text.now.items (address_text (c.args.address / 16 * 16)) (codes " ") (word_text (word_at b 0))
    (word_text (word_at b 4)) (word_text (word_at b 8)) (word_text (word_at b 12)))
