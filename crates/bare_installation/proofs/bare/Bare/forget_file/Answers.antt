use Rattle.std.proofs.Common.{◌∙◌, ◌<◌, ℕ, [], ◌∷◌, ap, get_or, subst, sym}
use Rattle.s370_store.specs.Plain.{plain_memory}
use Rattle.cp_spool.specs.Queues.{UserFiles, files_of}
use Rattle.machine_channels.specs.DedicatedChannels.{disks_of}
use Rattle.machine_devices.specs.Dropped.{IsDropped, closed_by_kind, closed_of}
use Rattle.machine_devices.specs.Equipped.{equipped, nobody}
use Rattle.machine_devices.specs.Lent.{devices_on, devices_with}
use Rattle.machine_devices.specs.declared.files.FileKind.{FileKind}
use Rattle.machine_devices.specs.declared.files.FileKind.TheVariants as kinds
use Rattle.bare_installation.specs.Bare.{Bare}
use Rattle.bare_installation.specs.Forgotten.{GoesOnAs}
use Rattle.machine_devices.proofs.Lost.{as_many_lost, files_again, lost_at, lost_files, printed_lost, punched_lost}
use Rattle.bare_installation.proofs.Dropped.{first_user, has_files, is_dropped, stays}
use Rattle.bare_installation.proofs.Forgotten.{events_go_on}
use Rattle.bare_installation.proofs.bare.Bare.forget_file.Goals as goal

pub invariant_of-self : goal.invariant_of-self
invariant_of-self c =
    let s = c.self.inside in
    let lost' = punched_lost c.args.note.user c.in-Punch.place s.queues.users c.forget_punched.new.self.users
    c.forget_punched.ensures.lost in
    let many = as_many_lost s.queues.users c.forget_punched.new.self.users lost' in (
      c.self.invariant.0,
      subst (λ (n : ℕ). s.devices.user < n) (sym many) c.self.invariant.1,
      many ∙ c.self.invariant.2,
    )

pub returns-in-Punch-clause-on : goal.returns-in-Punch-clause-on
returns-in-Punch-clause-on c =
    let s = c.self.inside in
    let lost' = punched_lost c.args.note.user c.in-Punch.place s.queues.users c.forget_punched.new.self.users
    c.forget_punched.ensures.lost in
    let user = s.devices.user in
    let old = files_of s.queues.users user in
    let new = files_of c.forget_punched.new.self.users user in
    let with_files = λ (f : UserFiles). let b : Bare = record {
      equipped = equipped s.machine (devices_with s.devices f) (disks_of s.channels) (plain_memory s.storage);
      files = s.files.items;
    } in b in
    let lost = lost_at s.queues.users c.forget_punched.new.self.users lost' user in
    let on : GoesOnAs (with_files old) (with_files new) =
    record { lines = []; lost = lost_files old new; same = ap with_files (files_again old new lost) } in
    subst (λ (b : Bare). GoesOnAs b (with_files new)) c.self.view_is on

pub invariant_of-self-in-Printer : goal.invariant_of-self-in-Printer
invariant_of-self-in-Printer c =
    let s = c.self.inside in
    let lost' = printed_lost c.args.note.user c.in-Printer.place s.queues.users c.forget_printed.new.self.users
    c.forget_printed.ensures.lost in
    let many = as_many_lost s.queues.users c.forget_printed.new.self.users lost' in (
      c.self.invariant.0,
      subst (λ (n : ℕ). s.devices.user < n) (sym many) c.self.invariant.1,
      many ∙ c.self.invariant.2,
    )

pub returns-in-Printer-clause-on : goal.returns-in-Printer-clause-on
returns-in-Printer-clause-on c =
    let s = c.self.inside in
    let lost' = printed_lost c.args.note.user c.in-Printer.place s.queues.users c.forget_printed.new.self.users
    c.forget_printed.ensures.lost in
    let user = s.devices.user in
    let old = files_of s.queues.users user in
    let new = files_of c.forget_printed.new.self.users user in
    let with_files = λ (f : UserFiles). let b : Bare = record {
      equipped = equipped s.machine (devices_with s.devices f) (disks_of s.channels) (plain_memory s.storage);
      files = s.files.items;
    } in b in
    let lost = lost_at s.queues.users c.forget_printed.new.self.users lost' user in
    let on : GoesOnAs (with_files old) (with_files new) =
    record { lines = []; lost = lost_files old new; same = ap with_files (files_again old new lost) } in
    subst (λ (b : Bare). GoesOnAs b (with_files new)) c.self.view_is on

pub returns-in-Deck-clause-on : goal.returns-in-Deck-clause-on
returns-in-Deck-clause-on c = events_go_on.reflexive c.args.self.now

pub returns-in-Punch-clause-lines : goal.returns-in-Punch-clause-lines
returns-in-Punch-clause-lines c = ap (λ (b : Bare). b.equipped.machine.output) c.self.view_is

pub returns-in-Printer-clause-lines : goal.returns-in-Printer-clause-lines
returns-in-Printer-clause-lines c = ap (λ (b : Bare). b.equipped.machine.output) c.self.view_is

pub returns-in-Punch-clause-gone : goal.returns-in-Punch-clause-gone
returns-in-Punch-clause-gone c =
    let s = c.self.inside in
    let queues = c.forget_punched.new.self in
    let lost' = punched_lost c.args.note.user c.in-Punch.place s.queues.users queues.users
    c.forget_punched.ensures.lost in
    let one = as_many_lost s.queues.users queues.users lost' ∙ c.self.invariant.2 in
    let after = equipped s.machine (devices_on s.devices queues) (disks_of s.channels) (plain_memory s.storage) in
    let has = has_files s.machine s.devices queues.users (disks_of s.channels) (plain_memory s.storage)
    (first_user s.devices.user s.queues.users c.self.invariant.1 c.self.invariant.2) in
    subst (λ (kind : FileKind).
    IsDropped (after ∷ []) (closed_by_kind (get_or (after ∷ []) c.args.note.user nobody) kind))
    (sym c.in-Punch.is)
    (is_dropped after queues.users one has c.args.note.user (kinds.Punch c.in-Punch.place)
    c.forget_punched.ensures.gone)

pub returns-in-Punch-clause-stays : goal.returns-in-Punch-clause-stays
returns-in-Punch-clause-stays c =
    let s = c.self.inside in
    let queues = c.forget_punched.new.self in
    let lost' = punched_lost c.args.note.user c.in-Punch.place s.queues.users queues.users
    c.forget_punched.ensures.lost in
    let one = as_many_lost s.queues.users queues.users lost' ∙ c.self.invariant.2 in
    let first = first_user s.devices.user s.queues.users c.self.invariant.1 c.self.invariant.2 in
    let before = equipped s.machine (devices_on s.devices s.queues) (disks_of s.channels) (plain_memory s.storage) in
    let after = equipped s.machine (devices_on s.devices queues) (disks_of s.channels) (plain_memory s.storage) in
    let had = has_files s.machine s.devices s.queues.users (disks_of s.channels) (plain_memory s.storage) first in
    let has = has_files s.machine s.devices queues.users (disks_of s.channels) (plain_memory s.storage) first in
    λ other. subst (λ (b : Bare). IsDropped (b.equipped ∷ []) (closed_of (b.equipped ∷ []) other)
    → IsDropped (after ∷ []) (closed_of (after ∷ []) other)) c.self.view_is
    (stays before after s.queues.users queues.users c.self.invariant.2 one had has lost' other.user other.kind)

pub returns-in-Printer-clause-gone : goal.returns-in-Printer-clause-gone
returns-in-Printer-clause-gone c =
    let s = c.self.inside in
    let queues = c.forget_printed.new.self in
    let lost' = printed_lost c.args.note.user c.in-Printer.place s.queues.users queues.users
    c.forget_printed.ensures.lost in
    let one = as_many_lost s.queues.users queues.users lost' ∙ c.self.invariant.2 in
    let after = equipped s.machine (devices_on s.devices queues) (disks_of s.channels) (plain_memory s.storage) in
    let has = has_files s.machine s.devices queues.users (disks_of s.channels) (plain_memory s.storage)
    (first_user s.devices.user s.queues.users c.self.invariant.1 c.self.invariant.2) in
    subst (λ (kind : FileKind).
    IsDropped (after ∷ []) (closed_by_kind (get_or (after ∷ []) c.args.note.user nobody) kind))
    (sym c.in-Printer.is)
    (is_dropped after queues.users one has c.args.note.user (kinds.Printer c.in-Printer.place)
    c.forget_printed.ensures.gone)

pub returns-in-Printer-clause-stays : goal.returns-in-Printer-clause-stays
returns-in-Printer-clause-stays c =
    let s = c.self.inside in
    let queues = c.forget_printed.new.self in
    let lost' = printed_lost c.args.note.user c.in-Printer.place s.queues.users queues.users
    c.forget_printed.ensures.lost in
    let one = as_many_lost s.queues.users queues.users lost' ∙ c.self.invariant.2 in
    let first = first_user s.devices.user s.queues.users c.self.invariant.1 c.self.invariant.2 in
    let before = equipped s.machine (devices_on s.devices s.queues) (disks_of s.channels) (plain_memory s.storage) in
    let after = equipped s.machine (devices_on s.devices queues) (disks_of s.channels) (plain_memory s.storage) in
    let had = has_files s.machine s.devices s.queues.users (disks_of s.channels) (plain_memory s.storage) first in
    let has = has_files s.machine s.devices queues.users (disks_of s.channels) (plain_memory s.storage) first in
    λ other. subst (λ (b : Bare). IsDropped (b.equipped ∷ []) (closed_of (b.equipped ∷ []) other)
    → IsDropped (after ∷ []) (closed_of (after ∷ []) other)) c.self.view_is
    (stays before after s.queues.users queues.users c.self.invariant.2 one had has lost' other.user other.kind)
