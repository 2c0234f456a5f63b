use Rattle.std.proofs.Common.{◌∙◌, Err, Ok, ap, arith, refl, subst, sym, ℕ}
use Rattle.machine_panel.specs.declared.line.LineError.{LineError}
use Rattle.cp_core.specs.Histories.{IsReplied}
use Rattle.cp_core.specs.Keeps.{LineKeeps}
use Rattle.cp_core.specs.System.{user_at, world_among}
use Rattle.machine_devices.specs.Replies.{said_to_line}
use Rattle.cp_core.specs.UserOp.{HasTyped}
use Rattle.machine_devices.specs.declared.event.Event.TheVariants.{Line}
use Rattle.machine_devices.specs.declared.reply.Reply.{Reply}
use Rattle.cp_core.proofs.Keeping.{kept_on}
use Rattle.cp_core.proofs.Steps.{if_err, line_cut, line_done, line_out, line_refused, typed_among}
use Rattle.cp_core.proofs.system.System.line.Goals as goal

pub returns-in_err-delivered-in-Ok-clause-cut : goal.returns-in_err-delivered-in-Ok-clause-cut
returns-in_err-delivered-in-Ok-clause-cut c =
    let t = c.with_user.ensures in
    let f = c.in_err-delivered-in-Ok.ensures in
    let typed = typed_among c.args.self.now c.with_user.new.self c.args.user c.number_of.result
    c.logged_on.result.items c.args.typed.now (Ok c.in-Ok.reported) c.number_of.ensures c.logged_on.ensures
    c.in-Ok.ensures.does in
    if_err c.from_residual.result _
    (line_cut c.args.self.now c.with_user.new.self c.follow.new.self c.args.user c.args.typed c.in-Ok.reported
    typed t.rest t.between_before t.between f.memory f.err c.follow.ensures.supply)

pub returns-in_ok-delivered-in-Ok-clause-step : goal.returns-in_ok-delivered-in-Ok-clause-step
returns-in_ok-delivered-in-Ok-clause-step c =
    let t = c.with_user.ensures in
    let f = c.in_ok-delivered-in-Ok.ensures in
    let typed = typed_among c.args.self.now c.with_user.new.self c.args.user c.number_of.result
    c.logged_on.result.items c.args.typed.now (Ok c.in-Ok.reported) c.number_of.ensures c.logged_on.ensures
    c.in-Ok.ensures.does in
    line_done c.args.self.now c.with_user.new.self c.follow.new.self c.args.user c.args.typed c.in-Ok.reported
    c.said_to_line.result c.saturating_sub.result c.in_ok-delivered-in-Ok.delivered typed t.rest t.between_before
    t.between f.delivered f.files f.come c.follow.ensures.supply
    (c.said_to_line.ensures ∙ ap (λ (n : ℕ). said_to_line n c.in-Ok.reported) c.next_file-number.ensures.value)
    (omega (arith, c.saturating_sub.ensures, c.printed_by.ensures, c.printed_by-printed.ensures))

pub returns-in-Err-FramesOut-clause-step : goal.returns-in-Err-FramesOut-clause-step
returns-in-Err-FramesOut-clause-step c =
    let t = c.with_user.ensures in
    let done = subst (λ (e : LineError).
    HasTyped (world_among c.args.self.now.directory c.number_of.result c.logged_on.result.items) c.args.user
    c.args.typed.now (user_at c.args.self.now c.args.user) c.args.self.now.supply (Err e)
    (user_at c.with_user.new.self c.args.user) c.with_user.new.self.supply) c.in-Err-FramesOut.field-0-is
    c.in-Err-FramesOut.ensures.does in
    let typed = typed_among c.args.self.now c.with_user.new.self c.args.user c.number_of.result
    c.logged_on.result.items c.args.typed.now _ c.number_of.ensures c.logged_on.ensures done in
    subst (λ (reply : Reply).
    IsReplied c.args.self.now
    (record { event = Line c.args.user c.args.typed; reply = reply; seen = c.with_user.new.self }))
    (sym c.silent.ensures)
    (line_out c.args.self.now c.with_user.new.self c.args.user c.args.typed typed t.rest t.between_before t.between)

pub returns-in-Err-Memory-clause-cut : goal.returns-in-Err-Memory-clause-cut
returns-in-Err-Memory-clause-cut c =
    let t = c.with_user.ensures in
    let done = subst (λ (e : LineError).
    HasTyped (world_among c.args.self.now.directory c.number_of.result c.logged_on.result.items) c.args.user
    c.args.typed.now (user_at c.args.self.now c.args.user) c.args.self.now.supply (Err e)
    (user_at c.with_user.new.self c.args.user) c.with_user.new.self.supply) c.in-Err-Memory.field-0-is
    c.in-Err-Memory.ensures.does in
    let typed = typed_among c.args.self.now c.with_user.new.self c.args.user c.number_of.result
    c.logged_on.result.items c.args.typed.now _ c.number_of.ensures c.logged_on.ensures done in
    line_refused c.args.self.now c.with_user.new.self c.args.user c.args.typed typed t.rest t.between_before t.between

pub returns-in_err-delivered-in-Ok-clause-kept_without_memory :
    goal.returns-in_err-delivered-in-Ok-clause-kept_without_memory
returns-in_err-delivered-in-Ok-clause-kept_without_memory c =
    let reported = c.in-Ok.reported in
    if_err c.from_residual.result _
    (record {
      result = Ok reported;
      kept = kept_on c.args.user c.args.self.now c.with_user.new.self c.follow.new.self
          (LineKeeps c.args.typed.now (user_at c.args.self.now c.args.user) (Ok reported))
          (record { own = c.in-Ok.ensures.keeps; others = c.with_user.ensures.others_kept }) c.follow.ensures.kept;
    })

pub returns-in_ok-delivered-in-Ok-clause-kept : goal.returns-in_ok-delivered-in-Ok-clause-kept
returns-in_ok-delivered-in-Ok-clause-kept c =
    let reported = c.in-Ok.reported in
    record {
      result = Ok reported;
      ends = refl;
      kept = kept_on c.args.user c.args.self.now c.with_user.new.self c.follow.new.self
          (LineKeeps c.args.typed.now (user_at c.args.self.now c.args.user) (Ok reported))
          (record { own = c.in-Ok.ensures.keeps; others = c.with_user.ensures.others_kept }) c.follow.ensures.kept;
    }

pub returns-in-Err-FramesOut-clause-kept : goal.returns-in-Err-FramesOut-clause-kept
returns-in-Err-FramesOut-clause-kept c =
    record {
      result = Err c.in-Err-FramesOut.field-0;
      ends = ap (λ (reply : Reply). reply.ended) c.silent.ensures;
      kept = record { own = c.in-Err-FramesOut.ensures.keeps; others = c.with_user.ensures.others_kept };
    }

pub returns-in-Err-Memory-clause-kept_without_memory : goal.returns-in-Err-Memory-clause-kept_without_memory
returns-in-Err-Memory-clause-kept_without_memory c =
    record {
      result = Err c.in-Err-Memory.field-0;
      kept = record { own = c.in-Err-Memory.ensures.keeps; others = c.with_user.ensures.others_kept };
    }
