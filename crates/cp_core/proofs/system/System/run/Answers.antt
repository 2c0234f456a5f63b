use Rattle.std.proofs.Common.{◌∙◌, ap, arith}
use Rattle.machine_devices.specs.Replies.{saying}
use Rattle.cp_core.proofs.Keeping.{kept_stays}
use Rattle.cp_core.proofs.Steps.{run_step}
use Rattle.cp_core.proofs.system.System.run.Goals as goal

pub returns-clause-step : goal.returns-clause-step
returns-clause-step c =
    let l = c.with_user-ran.ensures in
    run_step c.args.self.now c.with_user-ran.new.self c.args.user c.args.units c.with_user-ran.result c.of.result
    c.saturating_sub.result l.does l.rest l.between_before l.between
    (c.of.ensures ∙ ap saying c.notice_of.ensures)
    (omega (arith, c.saturating_sub.ensures, c.printed_by.ensures, c.printed_by-before.ensures))

pub returns-clause-kept : goal.returns-clause-kept
returns-clause-kept c =
    kept_stays c.args.self.now c.with_user-ran.new.self c.args.user c.with_user-ran.ensures.others_kept
    c.with_user-ran.ensures.keeps
