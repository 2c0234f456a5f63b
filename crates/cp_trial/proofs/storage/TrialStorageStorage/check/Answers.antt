use Rattle.std.proofs.Common.{rules, arith, ◌+◌, ◌-◌, ◌/◌, true, ◌≡◌}
use Rattle.cp_trial.specs.Trial.{is_touched}
use Rattle.s370_store.proofs.Verdicts.{ends_here}
use Rattle.cp_trial.proofs.storage.TrialStorageStorage.check.Goals as goal

pub flag_at-requires : goal.flag_at-requires
flag_at-requires c = let g = c.in_ok-test_range.ensures.1.0 (omega arith) in omega arith

pub overflow_add-last : goal.overflow_add-last
overflow_add-last c = let g = c.in_ok-test_range.ensures.1.0 (omega arith) in search rules

pub flag_at-requires-2 : goal.flag_at-requires-2
flag_at-requires-2 c = let g = c.in_ok-test_range.ensures.1.0 (omega arith) in omega arith

pub returns : goal.returns
returns c =
    let first_here : is_touched c.args.self.now (c.args.range.start / 4096) ≡ true = cc in
    let last_here : is_touched c.args.self.now ((c.args.range.start + (c.args.range.count - 1)) / 4096) ≡ true = cc in
    let g = c.in_ok-test_range.ensures.1.0 (omega arith) in (
      search rules,
      (
        λ some. record {
          inside = omega arith;
          here = ends_here (is_touched c.args.self.now) _ _ _ (omega arith) (omega arith) first_here last_here;
        },
        tt,
      ),
    )
