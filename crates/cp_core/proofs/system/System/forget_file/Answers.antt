use Rattle.std.proofs.Common.{◌≡◌, get_or, refl, subst, sym}
use Rattle.cp_core.specs.Forgotten.{GoesOnAs}
use Rattle.machine_devices.specs.Dropped.{IsDropped, closed_by_kind, closed_of, outputs_of}
use Rattle.machine_devices.specs.Equipped.{nobody}
use Rattle.machine_devices.specs.declared.files.FileKind.{FileKind}
use Rattle.machine_devices.specs.declared.files.FileKind.TheVariants as kinds
use Rattle.cp_core.specs.System.{SystemView, kept_of, users_of}
use Rattle.cp_core.proofs.Dropped.{is_dropped, kept_same, outputs_same, stays}
use Rattle.cp_core.specs.UserMachines.{seats_on}
use Rattle.machine_devices.proofs.Lost.{as_many_lost, printed_lost, punched_lost}
use Rattle.cp_core.proofs.Forgotten.{goes_on_lost}
use Rattle.cp_core.proofs.Restored.{alike_same, owners_restored, system_restored}
use Rattle.cp_core.proofs.Systems.{seen}
use Rattle.cp_core.proofs.system.System.forget_file.Goals as goal

pub invariant_of-self : goal.invariant_of-self
invariant_of-self c =
    let s = c.self.inside in
    let lost' = punched_lost c.args.note.user c.in-Punch.place s.queues.users c.forget_punched.new.self.users
    c.forget_punched.ensures.lost in
    let seats = s.users.items in
    let queues = c.forget_punched.new.self in (
      system_restored s.queues queues seats seats refl s.volumes s.volumes s.frames s.frames s.directory
          (alike_same s.volumes) c.self.invariant.0.there refl refl refl c.self.invariant.0,
      owners_restored s.queues queues seats seats refl c.self.invariant.1
          (as_many_lost s.queues.users queues.users lost'),
    )

pub returns-in-Punch-clause-on : goal.returns-in-Punch-clause-on
returns-in-Punch-clause-on c =
    let s = c.self.inside in
    let lost' = punched_lost c.args.note.user c.in-Punch.place s.queues.users c.forget_punched.new.self.users
    c.forget_punched.ensures.lost in
    let seats = s.users.items in
    let queues = c.forget_punched.new.self in
    let left = seen (seats_on queues seats) s.volumes s.frames.storages s.directory s.frames.supply s.files.items
    s.is_spent in
    subst (λ (v : SystemView). GoesOnAs v left) c.self.view_is
    (goes_on_lost s.queues queues lost' seats s.volumes s.frames.storages s.directory
    s.frames.supply
    s.files.items s.is_spent)

pub invariant_of-self-in-Printer : goal.invariant_of-self-in-Printer
invariant_of-self-in-Printer c =
    let s = c.self.inside in
    let lost' = printed_lost c.args.note.user c.in-Printer.place s.queues.users c.forget_printed.new.self.users
    c.forget_printed.ensures.lost in
    let seats = s.users.items in
    let queues = c.forget_printed.new.self in (
      system_restored s.queues queues seats seats refl s.volumes s.volumes s.frames s.frames s.directory
          (alike_same s.volumes) c.self.invariant.0.there refl refl refl c.self.invariant.0,
      owners_restored s.queues queues seats seats refl c.self.invariant.1
          (as_many_lost s.queues.users queues.users lost'),
    )

pub returns-in-Printer-clause-on : goal.returns-in-Printer-clause-on
returns-in-Printer-clause-on c =
    let s = c.self.inside in
    let lost' = printed_lost c.args.note.user c.in-Printer.place s.queues.users c.forget_printed.new.self.users
    c.forget_printed.ensures.lost in
    let seats = s.users.items in
    let queues = c.forget_printed.new.self in
    let left = seen (seats_on queues seats) s.volumes s.frames.storages s.directory s.frames.supply s.files.items
    s.is_spent in
    subst (λ (v : SystemView). GoesOnAs v left) c.self.view_is
    (goes_on_lost s.queues queues lost' seats s.volumes s.frames.storages s.directory
    s.frames.supply
    s.files.items s.is_spent)

pub returns-in-Punch-clause-stays : goal.returns-in-Punch-clause-stays
returns-in-Punch-clause-stays c =
    let s = c.self.inside in
    let seats = s.users.items in
    let queues = c.forget_punched.new.self in
    let lost' = punched_lost c.args.note.user c.in-Punch.place s.queues.users queues.users
    c.forget_punched.ensures.lost in
    let whole' = (system_restored s.queues queues seats seats refl s.volumes s.volumes s.frames s.frames s.directory
    (alike_same s.volumes) c.self.invariant.0.there refl refl refl c.self.invariant.0).whole in
    let owners' = owners_restored s.queues queues seats seats refl c.self.invariant.1
    (as_many_lost s.queues.users queues.users lost') in
    let after = users_of (seats_on queues seats) s.volumes s.frames.storages in
    λ other. subst (λ (v : SystemView). IsDropped v.users (closed_of v.users other)
    → IsDropped after (closed_of after other)) c.self.view_is
    (stays s.queues queues seats s.volumes s.frames.storages s.directory lost' c.self.invariant.0.whole
    c.self.invariant.1 whole' owners' other.kind other.user)

pub returns-in-Punch-clause-gone : goal.returns-in-Punch-clause-gone
returns-in-Punch-clause-gone c =
    let s = c.self.inside in
    let seats = s.users.items in
    let queues = c.forget_punched.new.self in
    let lost' = punched_lost c.args.note.user c.in-Punch.place s.queues.users queues.users
    c.forget_punched.ensures.lost in
    let whole' = (system_restored s.queues queues seats seats refl s.volumes s.volumes s.frames s.frames s.directory
    (alike_same s.volumes) c.self.invariant.0.there refl refl refl c.self.invariant.0).whole in
    let owners' = owners_restored s.queues queues seats seats refl c.self.invariant.1
    (as_many_lost s.queues.users queues.users lost') in
    let after = users_of (seats_on queues seats) s.volumes s.frames.storages in
    subst (λ (kind : FileKind). IsDropped after (closed_by_kind (get_or after c.args.note.user nobody) kind))
    (sym c.in-Punch.is)
    (is_dropped queues seats s.volumes s.frames.storages s.directory whole' owners' (kinds.Punch c.in-Punch.place)
    c.args.note.user c.forget_punched.ensures.gone)

pub returns-in-Punch-clause-lines : goal.returns-in-Punch-clause-lines
returns-in-Punch-clause-lines c =
    let s = c.self.inside in
    let after = users_of (seats_on c.forget_punched.new.self s.users.items) s.volumes s.frames.storages in
    subst (λ (v : SystemView). outputs_of after ≡ outputs_of v.users) c.self.view_is
    (outputs_same s.queues c.forget_punched.new.self s.users.items s.volumes s.frames.storages)

pub returns-in-Punch-clause-kept : goal.returns-in-Punch-clause-kept
returns-in-Punch-clause-kept c =
    let s = c.self.inside in
    subst (λ (v : SystemView). kept_of (seats_on c.forget_punched.new.self s.users.items) ≡ v.kept) c.self.view_is
    (kept_same s.queues c.forget_punched.new.self s.users.items)

pub returns-in-Punch-clause-files : goal.returns-in-Punch-clause-files
returns-in-Punch-clause-files c =
    subst (λ (v : SystemView). c.self.inside.files.items ≡ v.files) c.self.view_is refl

pub returns-in-Printer-clause-stays : goal.returns-in-Printer-clause-stays
returns-in-Printer-clause-stays c =
    let s = c.self.inside in
    let seats = s.users.items in
    let queues = c.forget_printed.new.self in
    let lost' = printed_lost c.args.note.user c.in-Printer.place s.queues.users queues.users
    c.forget_printed.ensures.lost in
    let whole' = (system_restored s.queues queues seats seats refl s.volumes s.volumes s.frames s.frames s.directory
    (alike_same s.volumes) c.self.invariant.0.there refl refl refl c.self.invariant.0).whole in
    let owners' = owners_restored s.queues queues seats seats refl c.self.invariant.1
    (as_many_lost s.queues.users queues.users lost') in
    let after = users_of (seats_on queues seats) s.volumes s.frames.storages in
    λ other. subst (λ (v : SystemView). IsDropped v.users (closed_of v.users other)
    → IsDropped after (closed_of after other)) c.self.view_is
    (stays s.queues queues seats s.volumes s.frames.storages s.directory lost' c.self.invariant.0.whole
    c.self.invariant.1 whole' owners' other.kind other.user)

pub returns-in-Printer-clause-gone : goal.returns-in-Printer-clause-gone
returns-in-Printer-clause-gone c =
    let s = c.self.inside in
    let seats = s.users.items in
    let queues = c.forget_printed.new.self in
    let lost' = printed_lost c.args.note.user c.in-Printer.place s.queues.users queues.users
    c.forget_printed.ensures.lost in
    let whole' = (system_restored s.queues queues seats seats refl s.volumes s.volumes s.frames s.frames s.directory
    (alike_same s.volumes) c.self.invariant.0.there refl refl refl c.self.invariant.0).whole in
    let owners' = owners_restored s.queues queues seats seats refl c.self.invariant.1
    (as_many_lost s.queues.users queues.users lost') in
    let after = users_of (seats_on queues seats) s.volumes s.frames.storages in
    subst (λ (kind : FileKind). IsDropped after (closed_by_kind (get_or after c.args.note.user nobody) kind))
    (sym c.in-Printer.is)
    (is_dropped queues seats s.volumes s.frames.storages s.directory whole' owners' (kinds.Printer c.in-Printer.place)
    c.args.note.user c.forget_printed.ensures.gone)

pub returns-in-Printer-clause-lines : goal.returns-in-Printer-clause-lines
returns-in-Printer-clause-lines c =
    let s = c.self.inside in
    let after = users_of (seats_on c.forget_printed.new.self s.users.items) s.volumes s.frames.storages in
    subst (λ (v : SystemView). outputs_of after ≡ outputs_of v.users) c.self.view_is
    (outputs_same s.queues c.forget_printed.new.self s.users.items s.volumes s.frames.storages)

pub returns-in-Printer-clause-kept : goal.returns-in-Printer-clause-kept
returns-in-Printer-clause-kept c =
    let s = c.self.inside in
    subst (λ (v : SystemView). kept_of (seats_on c.forget_printed.new.self s.users.items) ≡ v.kept) c.self.view_is
    (kept_same s.queues c.forget_printed.new.self s.users.items)

pub returns-in-Printer-clause-files : goal.returns-in-Printer-clause-files
returns-in-Printer-clause-files c =
    subst (λ (v : SystemView). c.self.inside.files.items ≡ v.files) c.self.view_is refl
