use Rattle.std.proofs.Common.{sym, subst}
use Rattle.cp_core.specs.Histories.{IsReplied}
use Rattle.machine_devices.specs.declared.event.Event.TheVariants.{Tick}
use Rattle.machine_devices.specs.declared.reply.Reply.{Reply}
use Rattle.cp_core.proofs.Keeping.{kept_stays}
use Rattle.cp_core.proofs.Steps.{tick_done, tick_out}
use Rattle.cp_core.proofs.system.System.tick.Goals as goal

pub returns-in-Ok-clause-step : goal.returns-in-Ok-clause-step
returns-in-Ok-clause-step c =
    subst (λ (reply : Reply).
    IsReplied c.args.self.now (record { event = Tick c.args.user; reply = reply; seen = c.with_user.new.self }))
    (sym c.silent.ensures)
    (tick_done c.args.self.now c.with_user.new.self c.args.user tt c.in-Ok.ensures.does c.with_user.ensures.rest
    c.with_user.ensures.between_before c.with_user.ensures.between)

pub returns-in-Err-clause-step : goal.returns-in-Err-clause-step
returns-in-Err-clause-step c =
    subst (λ (reply : Reply).
    IsReplied c.args.self.now (record { event = Tick c.args.user; reply = reply; seen = c.with_user.new.self }))
    (sym c.silent-in-Err.ensures)
    (tick_out c.args.self.now c.with_user.new.self c.args.user _ c.in-Err.ensures.does c.with_user.ensures.rest
    c.with_user.ensures.between_before c.with_user.ensures.between)

pub returns-in-Ok-clause-kept : goal.returns-in-Ok-clause-kept
returns-in-Ok-clause-kept c =
    kept_stays c.args.self.now c.with_user.new.self c.args.user c.with_user.ensures.others_kept
    c.with_user.ensures.keeps

pub returns-in-Err-clause-kept : goal.returns-in-Err-clause-kept
returns-in-Err-clause-kept c =
    kept_stays c.args.self.now c.with_user.new.self c.args.user c.with_user.ensures.others_kept
    c.with_user.ensures.keeps
