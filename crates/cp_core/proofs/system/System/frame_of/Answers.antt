use Rattle.std.proofs.Common.{◌≡◌, ◌*◌, ◌<◌, ◌∙◌, ap, arith, sym, subst, length, List, ℕ, nat_lt, true, false}
use Rattle.std.proofs.lemmas.Bool.Decides.{nat_tests}
use Rattle.cp_frames.specs.Layout.{IsZeroPage, frame_of}
use Rattle.cp_core.specs.System.{SystemView, machine_at}
use Rattle.cp_core.proofs.Loans.{frame_once, none_so, past_zero, told_inside, told_past}
use Rattle.cp_core.proofs.Systems.{bytes_are}
use Rattle.cp_core.specs.UserMachines.{seats_on}
use Rattle.cp_core.proofs.system.System.frame_of.Goals as goal

pub returns-then-not-has_page-clause-frame : goal.returns-then-not-has_page-clause-frame
returns-then-not-has_page-clause-frame c =
    let bytes = (machine_at c.args.self.now c.args.user).core.processor.bytes in
    let past : nat_lt (c.args.page.0 * 4096) (length bytes) ≡ false =
    sym c.has_page.ensures.inside ∙ c.if-not-has_page.true in
    sym (told_past (nat_lt (c.args.page.0 * 4096) (length bytes))
    (frame_of c.args.self.now.supply.owners c.args.user c.args.page.0) past)

pub returns-then-not-has_page-clause-zero : goal.returns-then-not-has_page-clause-zero
returns-then-not-has_page-clause-zero c = λ nowhere. (
    let bytes = (machine_at c.args.self.now c.args.user).core.processor.bytes in
    past_zero bytes c.args.page.0 (sym c.has_page.ensures.inside ∙ c.if-not-has_page.true))

pub frame_of-requires : goal.frame_of-requires
frame_of-requires c =
    let bytes = (machine_at c.args.self.now c.args.user).core.processor.bytes in
    let inside : nat_lt (c.args.page.0 * 4096) (length bytes) ≡ true =
    sym c.has_page.ensures.inside ∙ c.if-not-has_page.false in
    let stored = bytes_are (seats_on c.self.inside.queues c.self.inside.users.items) c.self.inside.volumes
    c.self.inside.frames.storages c.self.inside.directory c.args.self.now.users c.args.user c.self.invariant.0.whole
    (ap (λ (s : SystemView). s.users) c.self.view_is) (c.has_page.ensures.user c.if-not-has_page.false) in
    let less : c.args.page.0 * 4096 < length bytes = grind (arith, nat_tests) in
    omega (arith, less, ap (λ (xs : List ℕ). length xs) stored)

pub returns-clause-frame : goal.returns-clause-frame
returns-clause-frame c =
    let bytes = (machine_at c.args.self.now c.args.user).core.processor.bytes in
    let inside : nat_lt (c.args.page.0 * 4096) (length bytes) ≡ true =
    sym c.has_page.ensures.inside ∙ c.if-not-has_page.false in
    let there = c.frame_of.ensures.frame ∙ ap (λ (s : SystemView). frame_of s.supply.owners c.args.user c.args.page.0)
    c.self.view_is in
    there ∙ sym (told_inside (nat_lt (c.args.page.0 * 4096) (length bytes))
    (frame_of c.args.self.now.supply.owners c.args.user c.args.page.0) inside)

pub returns-clause-apart : goal.returns-clause-apart
returns-clause-apart c = λ some. (
    let bytes = (machine_at c.args.self.now c.args.user).core.processor.bytes in
    let inside : nat_lt (c.args.page.0 * 4096) (length bytes) ≡ true =
    sym c.has_page.ensures.inside ∙ c.if-not-has_page.false in
    let same = ap (λ (s : SystemView). frame_of s.supply.slots c.args.user c.args.page.0) c.self.view_is in
    told_inside (nat_lt (c.args.page.0 * 4096) (length bytes))
    (frame_of c.args.self.now.supply.slots c.args.user c.args.page.0) inside ∙ sym same ∙ c.frame_of.ensures.apart
    some)

pub returns-clause-once : goal.returns-clause-once
returns-clause-once c =
    let bytes = (machine_at c.args.self.now c.args.user).core.processor.bytes in
    let inside : nat_lt (c.args.page.0 * 4096) (length bytes) ≡ true =
    sym c.has_page.ensures.inside ∙ c.if-not-has_page.false in
    let there = c.frame_of.ensures.frame ∙ ap (λ (s : SystemView). frame_of s.supply.owners c.args.user c.args.page.0)
    c.self.view_is in
    frame_once c.args.self.now c.args.user c.args.page.0 c.frame_of.result
    (there ∙ sym (told_inside (nat_lt (c.args.page.0 * 4096) (length bytes))
    (frame_of c.args.self.now.supply.owners c.args.user c.args.page.0) inside))

pub returns-clause-zero : goal.returns-clause-zero
returns-clause-zero c =
    let bytes = (machine_at c.args.self.now c.args.user).core.processor.bytes in
    let inside : nat_lt (c.args.page.0 * 4096) (length bytes) ≡ true =
    sym c.has_page.ensures.inside ∙ c.if-not-has_page.false in
    let same = ap (λ (s : SystemView). frame_of s.supply.slots c.args.user c.args.page.0) c.self.view_is in
    let stored = bytes_are (seats_on c.self.inside.queues c.self.inside.users.items) c.self.inside.volumes
    c.self.inside.frames.storages c.self.inside.directory c.args.self.now.users c.args.user c.self.invariant.0.whole
    (ap (λ (s : SystemView). s.users) c.self.view_is) (c.has_page.ensures.user c.if-not-has_page.false) in
    none_so c.frame_of.result _ _
    (λ zero nowhere. subst (λ (bs : List ℕ). IsZeroPage bs c.args.page.0) stored
    (zero (same ∙ sym (told_inside (nat_lt (c.args.page.0 * 4096) (length bytes))
    (frame_of c.args.self.now.supply.slots c.args.user c.args.page.0) inside) ∙ nowhere))) c.frame_of.ensures.zero
