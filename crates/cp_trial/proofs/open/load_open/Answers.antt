use Rattle.std.proofs.Common.{◌≡◌, ℕ, ◌<◌, ap, subst, sym, inl, inr, Err, arith}
use Rattle.cp_trial.specs.Trial.{touched_flags, tried_bytes}
use Rattle.cp_dat.specs.Copies.{is_wanted}
use Rattle.cp_dat.specs.Lent.{lent_memory}
use Rattle.cp_dat.proofs.Copying.{came_fewer, came_more, stands_on}
use Rattle.cp_trial.specs.DryRun.{LoadTouches}
use Rattle.cp_trial.proofs.Opening.{loads_flagged, placed_before, refused_as}
use Rattle.cp_trial.proofs.open.load_open.Goals as goal

pub returns-in_err-fetch_first-clause-paged_in : goal.returns-in_err-fetch_first-clause-paged_in
returns-in_err-fetch_first-clause-paged_in g c =
    let old = c.args.storage.now in
    let Needs : ℕ → Type 0 = LoadTouches g.D.Device.machine (lent_memory old) c.args.device.now in
    came_fewer old c.fetch_first.new.storage (λ page. page ≡ 0) Needs 1 4 (λ page it. inl it) (omega arith)
    c.fetch_first.ensures.paged_in

pub returns-in-Err-clause-paged_in : goal.returns-in-Err-clause-paged_in
returns-in-Err-clause-paged_in g c =
    let old = c.args.storage.now in
    let Needs : ℕ → Type 0 = LoadTouches g.D.Device.machine (lent_memory old) c.args.device.now in
    came_fewer old c.fetch_first.new.storage (λ page. page ≡ 0) Needs 1 4 (λ page it. inl it) (omega arith)
    c.fetch_first.ensures.paged_in

pub returns-in_err-ending-clause-paged_in : goal.returns-in_err-ending-clause-paged_in
returns-in_err-ending-clause-paged_in g c =
    let old = c.args.storage.now in
    let Needs : ℕ → Type 0 = LoadTouches g.D.Device.machine (lent_memory old) c.args.device.now in
    let first = came_fewer old c.fetch_first.new.storage (λ page. page ≡ 0) Needs 1 2 (λ page it. inl it) (omega arith)
    c.fetch_first.ensures.paged_in in
    came_more old c.fetch_first.new.storage c.load_tried.new.storage (is_wanted (touched_flags c.in-Ok.tried)) Needs 2 2
    (loads_flagged g.D.Device.machine old c.fetch_first.new.storage c.args.device.now c.in-Ok.tried
    c.fetch_first.ensures.memory c.in-Ok.ensures) first c.load_tried.ensures.paged_in

pub fetch_again-requires-clause-some : goal.fetch_again-requires-clause-some
fetch_again-requires-clause-some g c =
    let some = c.in_ok-fetch_first.ensures.some in
    subst (λ (n : ℕ). 0 < n) (sym c.load_tried.ensures.paged_in.paged_in.kept.same_size) some

pub fetch_again-requires-clause-stands : goal.fetch_again-requires-clause-stands
fetch_again-requires-clause-stands g c =
    stands_on c.fetch_first.new.storage c.load_tried.new.storage (is_wanted (touched_flags c.in-Ok.tried)) 2 0
    c.load_tried.ensures.paged_in (inl c.in_ok-fetch_first.ensures.there)

pub returns-clause-paged_in : goal.returns-clause-paged_in
returns-clause-paged_in g c =
    let old = c.args.storage.now in
    let Needs : ℕ → Type 0 = LoadTouches g.D.Device.machine (lent_memory old) c.args.device.now in
    let first = came_fewer old c.fetch_first.new.storage (λ page. page ≡ 0) Needs 1 1 (λ page it. inl it) (omega arith)
    c.fetch_first.ensures.paged_in in
    let second = came_more old c.fetch_first.new.storage c.load_tried.new.storage
    (is_wanted (touched_flags c.in-Ok.tried)) Needs 1 2
    (loads_flagged g.D.Device.machine old c.fetch_first.new.storage c.args.device.now c.in-Ok.tried
    c.fetch_first.ensures.memory c.in-Ok.ensures) first c.load_tried.ensures.paged_in in
    came_more old c.load_tried.new.storage c.fetch_again.new.storage (λ page. page ≡ 0) Needs 3 1 (λ page it. inl it)
    second
    c.fetch_again.ensures.paged_in

pub returns-in-Err-clause-roomy : goal.returns-in-Err-clause-roomy
returns-in-Err-clause-roomy g c =
    λ refused. inl (record { paged_in = c.fetch_first.ensures.paged_in; there = c.in_ok-fetch_first.ensures.there })

pub returns-in_err-ending-clause-roomy : goal.returns-in_err-ending-clause-roomy
returns-in_err-ending-clause-roomy g c = λ refused. inr (inr (
    placed_before g.D.Device.machine c.args.storage.now c.fetch_first.new.storage c.load_tried.new.storage
    c.args.device.now c.in-Ok.tried c.fetch_first.ensures.memory c.in-Ok.ensures
    (c.in_err-ending.ensures.roomy
    (ap Err (refused_as c.from_residual-in_err-ending.result c.in_err-ending.field-0.0
    c.from_residual-in_err-ending.ensures.1 refused)))))
