use Rattle.std.proofs.Common.{arith, ◌≡◌, ◌+◌, ◌<◌, true, false, length, refl, ◌∙◌}
use Rattle.std.proofs.lemmas.Grind.{take-set_at}
use Rattle.s370_rows.specs.Mask.{byte_at, selects}
use Rattle.s370_rows.proofs.Masks.{is_counted, count_selected, count_passed, front_selected, front_passed}
use Rattle.s370_rows.proofs.mask.select_bytes.Goals as goal
use Rattle.s370_rows.proofs.mask.select_bytes.Goals.{then-selects, else-selects}

pub bounds-into-next : goal.bounds-into-next
bounds-into-next c =
    let s : selects c.args.mask c.loop-place.place ≡ true = cc in
    let counted = is_counted c.args.mask c.loop-place.place (omega arith) s in
    omega arith

pub overflow_add-next : goal.overflow_add-next
overflow_add-next c =
    let s : selects c.args.mask c.loop-place.place ≡ true = cc in
    let counted = is_counted c.args.mask c.loop-place.place (omega arith) s in
    grind arith

pub loop-place-preserved : goal.loop-place-preserved
loop-place-preserved c =
    elim c.if-selects.branch [
      | then-selects w ↦
          let s : selects c.args.mask c.loop-place.place ≡ true = cc in
          let n = count_selected c.args.mask c.loop-place.place s in
          let counted = is_counted c.args.mask c.loop-place.place (omega arith) s in
          let f = front_selected c.args.word c.args.mask c.loop-place.place s in
          let fits : c.loop-place.next < length c.loop-place.into = omega arith in
          let byte = byte_at c.args.word c.loop-place.place in
          let more = take-set_at c.loop-place.into c.loop-place.next (c.loop-place.next + 1) byte refl fits in
          record { counted = cc; room = c.if-selects.auto.into ∙ c.loop-place.invariant.room; written = cc }
      | else-selects w ↦
          let s : selects c.args.mask c.loop-place.place ≡ false = cc in
          let n = count_passed c.args.mask c.loop-place.place s in
          let f = front_passed c.args.word c.args.mask c.loop-place.place s in
          record { counted = cc; room = c.if-selects.auto.into ∙ c.loop-place.invariant.room; written = cc }
    ]
