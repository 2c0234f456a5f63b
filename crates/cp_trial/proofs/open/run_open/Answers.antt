use Rattle.std.proofs.Common.{ℕ, inr, arith}
use Rattle.s370_channel.specs.Guest.{guest_written}
use Rattle.s370_channel.specs.Runs.{begun, limited}
use Rattle.s370_channel.specs.Supplied.{IsTouched}
use Rattle.cp_trial.specs.Trial.{touched_flags, tried_bytes}
use Rattle.cp_dat.specs.Copies.{is_wanted}
use Rattle.cp_dat.specs.Lent.{keeps_stored_same, lent_memory}
use Rattle.cp_dat.proofs.Copying.{came_fewer, came_nothing}
use Rattle.cp_trial.proofs.open.run_open.Goals as goal

pub returns-in-Ok-clause-paged_in : goal.returns-in-Ok-clause-paged_in
returns-in-Ok-clause-paged_in g c =
    let old = c.args.storage.now in
    let Touched : ℕ → Type 0 =
    IsTouched guest_written (limited g.D.Device.machine c.args.start)
    (begun c.args.start (lent_memory old) c.args.device.now) in
    came_fewer old c.run_tried.new.storage (is_wanted (touched_flags c.in-Ok.tried)) Touched 2 2
    (λ page it. c.in-Ok.ensures.touches page it) (omega arith) c.run_tried.ensures.paged_in

pub returns-in-Err-clause-paged_in : goal.returns-in-Err-clause-paged_in
returns-in-Err-clause-paged_in g c =
    let old = c.args.storage.now in
    came_nothing old old (IsTouched guest_written (limited g.D.Device.machine c.args.start)
    (begun c.args.start (lent_memory old) c.args.device.now)) 2 c.requires (keeps_stored_same old)

pub returns-in-Ok-clause-roomy : goal.returns-in-Ok-clause-roomy
returns-in-Ok-clause-roomy g c =
    λ refused. inr (record {
      bytes = tried_bytes c.args.storage.now c.in-Ok.tried;
      flags = touched_flags c.in-Ok.tried;
      tried = c.in-Ok.ensures;
      stand = c.run_tried.ensures.roomy refused;
    })
