use Rattle.std.proofs.Common.{◌≡◌, ◌≢◌, ◌<◌, ◌+◌, ◌∙◌, ap, sym, arith, length, slice_index}
use Rattle.std.specs.Prelude.{slice_set}
use Rattle.cp_needs.specs.Marks.{unmarked}
use Rattle.cp_needs.proofs.Marking.{marked}
use Rattle.cp_needs.proofs.index.number_or_add.Goals as goal

pub returns-clause-count : goal.returns-clause-count
returns-clause-count c =
    let index = c.args.index.now in
    let room : c.slot-slot.result < length index = omega (arith, c.slot-slot.ensures, c.requires.room) in
    let free : slice_index index c.slot-slot.result ≡ 0 = sym c.get-known.ensures ∙ c.if-known-ne0.false in
    let some : c.len-number.result + 1 ≢ 0 = λ e. omega (arith, e) in
    let fewer = marked index c.slot-slot.result (c.len-number.result + 1) room free some in
    let kept : unmarked c.set.new.self ≡ unmarked (slice_set index c.slot-slot.result (c.len-number.result + 1)) = ap
    unmarked c.in_ok-set.ensures.ok in
    omega (arith, fewer, kept, c.in_ok-push.ensures.len)
