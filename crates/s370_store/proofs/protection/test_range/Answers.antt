use Rattle.std.proofs.Common.{arith, refl, ◌≡◌, true, false, ◌+◌, ◌-◌, ◌/◌, get_or, add-zero}
use Rattle.s370_store.specs.Access.{is_passed}
use Rattle.s370_store.proofs.Verdicts.{one_fine, one_beyond, one_forbidden, inside, empty_inside, beyond, permitted_is}
use Rattle.s370_store.proofs.Verdicts.{key_zero_permits, ends_permit, forbids}
use Rattle.s370_store.proofs.protection.test_range.Goals as goal

pub returns-then-count-eq0 : goal.returns-then-count-eq0
returns-then-count-eq0 g c = (
  one_fine _ _ _ _ (empty_inside _ c.args.access c.args.range.start c.args.range.count (omega arith))
      (permitted_is _ _ _ _ _ true (rw c.if-count-eq0.true refl)),
  (λ some. record { inside = omega arith; here = λ k h. refl }, tt),
)

pub returns-then-start-count : goal.returns-then-start-count
returns-then-start-count g c =
    one_beyond _ _ _ _ (beyond _ c.args.access c.args.range.start c.args.range.count (omega arith) (omega arith))

pub returns-then-get-eq0 : goal.returns-then-get-eq0
returns-then-get-eq0 g c =
    let e : c.args.key ≡ 0 = cc in (
      one_fine _ _ _ _ (inside _ c.args.access c.args.range.start c.args.range.count (omega arith))
          (permitted_is _ _ _ _ _ true (rw e (key_zero_permits _ _ _ _))),
      (λ some. record { inside = omega arith; here = λ k h. refl }, tt),
    )

pub returns : goal.returns
returns g c =
    let first_passes : is_passed c.args.access c.args.key (get_or (g.K.KeyTable.of_blocks c.args.keys.now)
    (c.args.range.start / 2048) 0) ≡ true = cc in
    let last_passes : is_passed c.args.access c.args.key (get_or (g.K.KeyTable.of_blocks c.args.keys.now)
    ((c.args.range.start + (c.args.range.count - 1)) / 2048) 0) ≡ true = cc in (
      one_fine _ _ _ _ (inside _ c.args.access c.args.range.start c.args.range.count (omega arith))
          (permitted_is _ _ _ _ _ true (ends_permit _ _ _ _ _ (c.args.range.start + (c.args.range.count - 1))
          (omega arith) (omega arith) first_passes last_passes)),
      (λ some. record { inside = omega arith; here = λ k h. refl }, tt),
    )

pub returns-then-not-block_passes : goal.returns-then-not-block_passes
returns-then-not-block_passes g c =
    let first_fails : is_passed c.args.access c.args.key (get_or (g.K.KeyTable.of_blocks c.args.keys.now)
    ((c.args.range.start + 0) / 2048) 0) ≡ false = rw add-zero (cc) in
    one_forbidden _ _ _ _ (inside _ c.args.access c.args.range.start c.args.range.count (omega arith))
    (permitted_is _ _ _ _ _ false (forbids _ _ _ _ _ 0 (omega arith) first_fails))

pub returns-then-not-block_passes-2 : goal.returns-then-not-block_passes-2
returns-then-not-block_passes-2 g c =
    let last_fails : is_passed c.args.access c.args.key (get_or (g.K.KeyTable.of_blocks c.args.keys.now)
    ((c.args.range.start + (c.args.range.count - 1)) / 2048) 0) ≡ false = cc in
    one_forbidden _ _ _ _ (inside _ c.args.access c.args.range.start c.args.range.count (omega arith))
    (permitted_is _ _ _ _ _ false (forbids _ _ _ _ _ (c.args.range.count - 1) (omega arith) last_fails))

pub returns-then-start-count-le2048 : goal.returns-then-start-count-le2048
returns-then-start-count-le2048 g c =
    let first_passes : is_passed c.args.access c.args.key (get_or (g.K.KeyTable.of_blocks c.args.keys.now)
    (c.args.range.start / 2048) 0) ≡ true = cc in
    let one_block : (c.args.range.start + (c.args.range.count - 1)) / 2048 ≡ c.args.range.start / 2048 = omega arith in
    let last_passes : is_passed c.args.access c.args.key (get_or (g.K.KeyTable.of_blocks c.args.keys.now)
    ((c.args.range.start + (c.args.range.count - 1)) / 2048) 0) ≡ true = rw one_block first_passes in (
      one_fine _ _ _ _ (inside _ c.args.access c.args.range.start c.args.range.count (omega arith))
          (permitted_is _ _ _ _ _ true (ends_permit _ _ _ _ _ (c.args.range.start + (c.args.range.count - 1))
          (omega arith) (omega arith) first_passes last_passes)),
      (λ some. record { inside = omega arith; here = λ k h. refl }, tt),
    )
