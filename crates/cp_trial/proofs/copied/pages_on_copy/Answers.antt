use Rattle.std.proofs.Common.{◌≡◌, ◌*◌, ◌/◌, arith, length, subst, sym}
use Rattle.s370_store.specs.Memory.{Memory}
use Rattle.cp_trial.specs.Trial.{trial_memory}
use Rattle.cp_dat.specs.Lent.{lent_memory}
use Rattle.cp_needs.specs.declared.kept.Analysis.{Analysis}
use Rattle.cp_needs.specs.Kept.{IfPages, IfText, IsPaged, IsPagedOnly, IsText, IsTextOnly}
use Rattle.cp_needs.specs.Needs.{IsProgramPage}
use Rattle.cp_trial.proofs.copied.pages_on_copy.Goals as goal

pub returns-in-Fixed-clause-all : goal.returns-in-Fixed-clause-all
returns-in-Fixed-clause-all c = λ page it.
    (let copy = c.loop-copy.copy in
    let m = trial_memory copy in
    let start = c.args.address in
    let same : m ≡ lent_memory c.args.storage.now = c.loop-copy.invariant in
    let size : length m.bytes ≡ c.size.result / 4096 * 4096 = omega (arith, copy.a_flag_a_page, c.size.ensures.bytes) in
    let texts = subst (λ (f : Analysis). IfText f (IsText m start)) c.in-Fixed.is c.in_ok-text.ensures.text in
    let paged = subst (λ (f : Analysis). IfPages f (IsPaged m start)) c.in-Fixed.is c.in_ok-text.ensures.pages in
    c.in_ok-flags-in-Fixed.ensures.all m start page size (rw c.deref.ensures.value texts)
    (rw c.deref-in-Fixed.ensures.value paged) (subst (λ (n : Memory). IsProgramPage n start page) (sym same) it))

pub returns-in-Fixed-clause-only : goal.returns-in-Fixed-clause-only
returns-in-Fixed-clause-only c = λ page it.
    (let copy = c.loop-copy.copy in
    let m = trial_memory copy in
    let start = c.args.address in
    let same : m ≡ lent_memory c.args.storage.now = c.loop-copy.invariant in
    let size : length m.bytes ≡ c.size.result / 4096 * 4096 = omega (arith, copy.a_flag_a_page, c.size.ensures.bytes) in
    let texts = subst (λ (f : Analysis). IfText f (IsTextOnly m start)) c.in-Fixed.is c.in_ok-text.ensures.only in
    let paged = subst (λ (f : Analysis). IfPages f (IsPagedOnly m start)) c.in-Fixed.is c.in_ok-text.ensures.pages_only
    in
    subst (λ (n : Memory). IsProgramPage n start page) same
    (c.in_ok-flags-in-Fixed.ensures.only m start page size (rw c.deref.ensures.value texts)
    (rw c.deref-in-Fixed.ensures.value paged) it))
