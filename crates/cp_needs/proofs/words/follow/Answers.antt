use Rattle.std.proofs.Common.{◌≡◌, ◌≢◌, ◌/◌, ◌<◌, ◌∙◌, ap, sym, arith, length, slice_index}
use Rattle.std.specs.Prelude.{slice_set}
use Rattle.cp_needs.specs.Marks.{unmarked}
use Rattle.cp_needs.proofs.Marking.{marked}
use Rattle.cp_needs.proofs.words.follow.Goals as goal

pub returns-clause-count : goal.returns-clause-count
returns-clause-count c =
    let seen = c.args.seen.now in
    let slot = c.args.address / 8 in
    let room : slot < length seen = omega (arith, c.if-slot-count.false, c.count.ensures) in
    let free : slice_index seen slot ≡ 0 = sym c.get.ensures ∙ c.if-get-ne0.false in
    let one : 1 ≢ 0 = λ e. omega (arith, e) in
    let fewer = marked seen slot 1 room free one in
    let kept : unmarked c.set.new.self ≡ unmarked (slice_set seen slot 1) = ap unmarked c.in_ok-set.ensures.ok in
    omega (arith, fewer, kept, c.in_ok-push.ensures.len)
