use Rattle.std.proofs.Common.{◌≡◌, ◌∙◌, ◌+◌, ◌-◌, ◌/◌, ◌≤◌, List, ℕ, length, ap, arith, sym}
use Rattle.cp_dat.specs.Lent.{lent_bytes}
use Rattle.cp_dat.proofs.Written.{part_over}
use Rattle.cp_trial.specs.Trial.{is_touched, trial_bytes, trial_flags}
use Rattle.cp_trial.proofs.storage.TrialStorageStorage.load.Goals as goal

pub returns : goal.returns
returns c =
    let s = c.args.self.now in
    let end : ℕ = c.args.start + length c.args.into.now in
    let low = c.requires.granted.inside in
    let size : length (trial_bytes s) ≡ length s.bytes = s.shown in
    let long : length s.bytes ≡ length (lent_bytes s.source.now) = s.sized in
    c.read.ensures ∙
    sym (part_over (trial_flags s) (lent_bytes s.source.now) s.bytes c.args.start end long (omega arith)
    (omega (arith, low, size, long))
    (λ a from to. (let place : c.args.start + (a - c.args.start) ≡ a = omega (arith, from) in
    ap (λ k. is_touched s (k / 4096)) (sym place) ∙ c.requires.granted.here (a - c.args.start) (omega (
      arith,
      from,
      to,
    )))))

pub read-requires-clause-inside : goal.read-requires-clause-inside
read-requires-clause-inside c =
    let low = c.requires.granted.inside in
    let size : length (trial_bytes c.args.self.now) ≡ length c.args.self.now.bytes = c.args.self.now.shown in
    omega (arith, low, size)
