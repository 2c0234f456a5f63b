use Rattle.std.proofs.Common.{All, ℕ, subst}
use Rattle.cp_dat.specs.Copies.{is_wanted}
use Rattle.cp_dat.specs.Lent.{is_lent_page, lent_bytes, lent_memory}
use Rattle.cp_needs.specs.declared.kept.Analysis.{Analysis}
use Rattle.cp_needs.specs.Kept.{IfPages, IfText, IsAsItStood, IsPaged, IsPagedOnly, IsText, IsTextOnly}
use Rattle.cp_needs.specs.Needs.{IsFixed, IsHeld}
use Rattle.cp_trial.specs.Holding.{HoldNeeds}
use Rattle.cp_trial.proofs.Holds.{fixed_at, such_for}
use Rattle.cp_trial.proofs.held.lock_wanted.Goals as goal

pub returns-in-Err-clause-supply : goal.returns-in-Err-clause-supply
returns-in-Err-clause-supply c =
    (let s = c.bring_wanted.ensures.supply in
    let Needs : ℕ → Type 0 = HoldNeeds (lent_memory c.args.storage.now) c.args.address in (
      s.0,
      s.1,
      such_for (is_wanted c.args.wanted.now) Needs
          (λ page it. record { even = c.requires.even; fixed = c.requires.fixed; needed = c.requires.only page it }) s.0
          s.2,
    ))

pub returns-in-Ok-Fixed-clause-supply : goal.returns-in-Ok-Fixed-clause-supply
returns-in-Ok-Fixed-clause-supply c =
    (let s = c.bring_wanted.ensures.supply in
    let Needs : ℕ → Type 0 = HoldNeeds (lent_memory c.args.storage.now) c.args.address in (
      s.0,
      s.1,
      such_for (is_wanted c.args.wanted.now) Needs
          (λ page it. record { even = c.requires.even; fixed = c.requires.fixed; needed = c.requires.only page it }) s.0
          s.2,
    ))

pub returns-in-Err-analyze-clause-supply : goal.returns-in-Err-analyze-clause-supply
returns-in-Err-analyze-clause-supply c =
    (let s = c.bring_wanted.ensures.supply in
    let Needs : ℕ → Type 0 = HoldNeeds (lent_memory c.args.storage.now) c.args.address in (
      s.0,
      s.1,
      such_for (is_wanted c.args.wanted.now) Needs
          (λ page it. record { even = c.requires.even; fixed = c.requires.fixed; needed = c.requires.only page it }) s.0
          s.2,
    ))

pub returns-in-Ok-Fixed-clause-fixed : goal.returns-in-Ok-Fixed-clause-fixed
returns-in-Ok-Fixed-clause-fixed c =
    let new = c.bring_wanted.new.storage in
    let m = lent_memory new in
    let start = c.args.address in
    let present = is_lent_page new in
    fixed_at c.args.storage.now new start c.in-Ok-Fixed.text.items c.in-Ok-Fixed.pages.items
    c.bring_wanted.ensures.memory c.requires.even
    (subst (λ (f : Analysis). IfText f (λ text. IsFixed m start)) c.in-Ok-Fixed.field-0-is c.in-Ok-Fixed.ensures.fixed)
    (subst (λ (f : Analysis). IfText f (λ text. IsHeld m start present)) c.in-Ok-Fixed.field-0-is
    c.in-Ok-Fixed.ensures.held)
    (subst (λ (f : Analysis). IfText f (IsText m start)) c.in-Ok-Fixed.field-0-is c.in-Ok-Fixed.ensures.text)
    (subst (λ (f : Analysis). IfText f (IsTextOnly m start)) c.in-Ok-Fixed.field-0-is c.in-Ok-Fixed.ensures.only)
    (subst (λ (f : Analysis). IfText f (All (IsAsItStood (lent_bytes new) present))) c.in-Ok-Fixed.field-0-is
    c.in-Ok-Fixed.ensures.stands)
    (subst (λ (f : Analysis). IfPages f (IsPaged m start)) c.in-Ok-Fixed.field-0-is c.in-Ok-Fixed.ensures.pages)
    (subst (λ (f : Analysis). IfPages f (IsPagedOnly m start)) c.in-Ok-Fixed.field-0-is
    c.in-Ok-Fixed.ensures.pages_only)
