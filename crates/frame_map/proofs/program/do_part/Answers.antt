use Rattle.std.proofs.Common.{◌≡◌, ◌⊎◌, inl, inr}
use Rattle.cp_core.specs.System.{SystemView}
use Rattle.program_host.proofs.Deeds.{if_err}
use Rattle.programs.specs.Faults.{play_failure}
use Rattle.programs.specs.declared.faults.Failure.TheVariants as failures
use Rattle.sessions.specs.declared.follow.Part.{Part}
use Rattle.vm370.specs.Goes.{system_goes}
use Rattle.frame_map.specs.Maps.{IsRefusedPart}
use Rattle.frame_map.proofs.Unmapped.{unclosed, unplayed}
use Rattle.frame_map.proofs.program.do_part.Goals as goal

pub returns-in_err-part-clause-err : goal.returns-in_err-part-clause-err
returns-in_err-part-clause-err c =
    let error = c.in_err-part.field-0.0 in
    if_err (λ failure. (failure ≡ failures.Memory) ⊎ IsRefusedPart c.args.text.now c.args.follower failure)
    c.from_residual.result (play_failure error) c.from_residual.ensures.1
    (elim (unplayed (Part SystemView) (system_goes.is_spent c.args.follower.world) error c.in_err-part.ensures.why) [
      | inl memory ↦ inl memory
      | inr spent ↦ inr (inr spent)
    ])

pub returns-in_err-machines-in-Done-clause-err : goal.returns-in_err-machines-in-Done-clause-err
returns-in_err-machines-in-Done-clause-err c =
    let error = c.in_err-machines-in-Done.field-0.0 in
    if_err (λ failure. (failure ≡ failures.Memory) ⊎ IsRefusedPart c.args.text.now c.args.follower failure)
    c.from_residual-in_err-machines-in-Done.result (play_failure error)
    c.from_residual-in_err-machines-in-Done.ensures.1
    (inl (unclosed SystemView error c.in_err-machines-in-Done.ensures.why))
