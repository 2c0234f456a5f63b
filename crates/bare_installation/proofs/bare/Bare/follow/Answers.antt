use Rattle.std.proofs.Common.{◌≡◌, IfOk, Option, ap, subst}
use Rattle.s370_channel.specs.Reading.{as_reached}
use Rattle.machine_devices.specs.declared.reply.Delivered.{Delivered}
use Rattle.machine_devices.specs.Coming.{comes_by_line, coming_of}
use Rattle.machine_devices.specs.Equipped.{Equipped}
use Rattle.machine_devices.specs.Life.{Lives}
use Rattle.machine_devices.specs.Lines.{files_closed}
use Rattle.machine_devices.specs.Notes.{stands_in}
use Rattle.bare_installation.specs.Bare.{Bare}
use Rattle.bare_installation.proofs.bare.Bare.follow.Goals as goal

pub returns-in-Sent-clause-come : goal.returns-in-Sent-clause-come
returns-in-Sent-clause-come c =
    let same : c.note_closed.new.self.equipped ≡ c.args.self.now.equipped =
    ap (λ (b : Bare). b.equipped) c.in_ok-note_closed.ensures.ok in
    subst (λ (e : Equipped).
    IfOk c.send.result (λ (d : Option Delivered).
    Lives as_reached (coming_of
    (comes_by_line 0 (stands_in (files_closed c.args.reported.now).punched e.devices.punched) e) d) e
    c.send.new.self.equipped)) same
    (c.send.ensures.come (stands_in (files_closed c.args.reported.now).punched
    c.note_closed.new.self.equipped.devices.punched))
