use Rattle.std.proofs.Common.{codes}
use Rattle.text_words.specs.Words.{word_of}
use Rattle.ckd_text.specs.Map.{cylinders_text}
use Rattle.ckd_text.proofs.Maps.{append_three}
use Rattle.ckd_text.proofs.map.put_name.Goals as goal

pub returns : goal.returns
returns c =
    rw (
      c.in_ok-extend_from_slice-3.ensures.items,
      c.in_ok-extend_from_slice-2.ensures.items,
      c.in_ok-extend_from_slice.ensures.items,
      c.as_bytes.ensures.value,
      c.in_ok-cylinders.ensures,
      c.cut_word.ensures.word,
      c.volser-serial.ensures,
    ) (append_three c.args.out.now.items (codes "VOLUME ")
    (word_of c.args.volume.now.volser) (cylinders_text c.args.volume.now))
