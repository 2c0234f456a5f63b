use Rattle.std.proofs.Common.{Bool, Err, Ok, Result, ap, arith, refl, sym, subst}
use Rattle.machine_panel.specs.declared.line.LineError.{LineError}
use Rattle.cp_core.specs.Histories.{IsReplied}
use Rattle.machine_devices.specs.declared.event.Event.TheVariants.{Serve}
use Rattle.machine_devices.specs.declared.reply.Ended.{Ended}
use Rattle.machine_devices.specs.declared.reply.Reply.{Reply}
use Rattle.cp_core.specs.Keeps.{EventKeeps, HasKept, ServeKeeps, serve_ended}
use Rattle.cp_core.specs.System.{kept_at, user_at}
use Rattle.cp_core.specs.UserOp.{HasServed}
use Rattle.cp_core.proofs.Steps.{serve_cut, serve_done, serve_out}
use Rattle.cp_core.proofs.system.System.serve.Goals as goal

pub returns-in-Ok-clause-step : goal.returns-in-Ok-clause-step
returns-in-Ok-clause-step c =
    serve_done c.args.self.now c.with_user.new.self c.args.user c.args.device c.in-Ok.done c.saturating_sub.result
    c.in-Ok.ensures.does c.with_user.ensures.rest c.with_user.ensures.between_before c.with_user.ensures.between
    (omega (arith, c.saturating_sub.ensures, c.printed_by.ensures, c.printed_by-before.ensures))

pub returns-in-Err-FramesOut-clause-step : goal.returns-in-Err-FramesOut-clause-step
returns-in-Err-FramesOut-clause-step c =
    subst (λ (reply : Reply).
    IsReplied c.args.self.now
    (record { event = Serve c.args.user c.args.device; reply = reply; seen = c.with_user.new.self }))
    (sym c.silent.ensures)
    (serve_out c.args.self.now c.with_user.new.self c.args.user c.args.device
    (subst (λ (e : LineError).
    HasServed c.args.device c.args.user (user_at c.args.self.now c.args.user) c.args.self.now.supply (Err e)
    (user_at c.with_user.new.self c.args.user) c.with_user.new.self.supply) c.in-Err-FramesOut.field-0-is
    c.in-Err-FramesOut.ensures.does) c.with_user.ensures.rest c.with_user.ensures.between_before
    c.with_user.ensures.between)

pub returns-in-Err-Memory-clause-cut : goal.returns-in-Err-Memory-clause-cut
returns-in-Err-Memory-clause-cut c =
    serve_cut c.args.self.now c.with_user.new.self c.args.user c.args.device
    (subst (λ (e : LineError).
    HasServed c.args.device c.args.user (user_at c.args.self.now c.args.user) c.args.self.now.supply (Err e)
    (user_at c.with_user.new.self c.args.user) c.with_user.new.self.supply) c.in-Err-Memory.field-0-is
    c.in-Err-Memory.ensures.does) c.with_user.ensures.rest c.with_user.ensures.between_before
    c.with_user.ensures.between
    (subst (λ (e : LineError).
    ServeKeeps c.args.device c.args.user (user_at c.args.self.now c.args.user) c.args.self.now.supply (Err e)
    (kept_at c.args.self.now c.args.user) (kept_at c.with_user.new.self c.args.user)) c.in-Err-Memory.field-0-is
    c.in-Err-Memory.ensures.keeps)

pub returns-in-Ok-clause-kept : goal.returns-in-Ok-clause-kept
returns-in-Ok-clause-kept c =
    let one : HasKept c.args.user c.args.self.now c.with_user.new.self
    (ServeKeeps c.args.device c.args.user (user_at c.args.self.now c.args.user) c.args.self.now.supply
    (Ok c.in-Ok.done)) =
    record { own = c.in-Ok.ensures.keeps; others = c.with_user.ensures.others_kept } in
    record { result = Ok c.in-Ok.done; ends = refl; kept = one }

pub returns-in-Err-FramesOut-clause-kept : goal.returns-in-Err-FramesOut-clause-kept
returns-in-Err-FramesOut-clause-kept c =
    let error = c.in-Err-FramesOut.field-0 in
    let one : HasKept c.args.user c.args.self.now c.with_user.new.self
    (ServeKeeps c.args.device c.args.user (user_at c.args.self.now c.args.user) c.args.self.now.supply
    (Err error)) =
    record { own = c.in-Err-FramesOut.ensures.keeps; others = c.with_user.ensures.others_kept } in
    record { result = Err error; ends = ap (λ (reply : Reply). reply.ended) c.silent.ensures; kept = one }

pub returns-in-Err-Memory-clause-kept_without_memory : goal.returns-in-Err-Memory-clause-kept_without_memory
returns-in-Err-Memory-clause-kept_without_memory c =
    record {
      own = subst (λ (e : LineError).
          ServeKeeps c.args.device c.args.user (user_at c.args.self.now c.args.user) c.args.self.now.supply (Err e)
          (kept_at c.args.self.now c.args.user) (kept_at c.with_user.new.self c.args.user)) c.in-Err-Memory.field-0-is
          c.in-Err-Memory.ensures.keeps;
      others = c.with_user.ensures.others_kept;
    }
