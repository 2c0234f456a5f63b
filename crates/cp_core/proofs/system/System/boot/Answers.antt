use Rattle.std.proofs.Common.{All, Err, ◌≡◌, ◌≤◌, ◌∙◌, ◌*◌, ℕ, List, Option, None, ap, arith, length, map, replicate}
use Rattle.std.proofs.Common.{subst, sym, false, refl}
use Rattle.std.specs.List.{find, position}
use Rattle.ckd_volume.specs.Volume.{VolumeFormat}
use Rattle.cp_directory.specs.Grammar.{HasLawfulDevices}
use Rattle.cp_directory.specs.Users.{AreApart, DirectoryUser}
use Rattle.cp_core.specs.declared.events.BootError.TheVariants as errors
use Rattle.cp_placement.specs.Seating.{AreLawful, minidisks_at, user_is_past, user_lacks}
use Rattle.cp_volumes.specs.Shared.{AreThere}
use Rattle.cp_core.specs.Boot.{AreNewUsers, free_supply}
use Rattle.cp_core.specs.System.{placements_among, users_of}
use Rattle.cp_spool.specs.Queues.{no_files}
use Rattle.cp_core.specs.UserMachines.{UserParts, unowned}
use Rattle.cp_core.specs.Whole.{AreNew, AreSeated, IsSystem}
use Rattle.cp_core.proofs.Owned.{owners_new, seats_new}
use Rattle.cp_core.proofs.Boots.{blank, between_new, boot_seen, device_told, err_same, kept_new, new_supply, new_users}
use Rattle.cp_core.proofs.Boots.{seated_new, placements_new, whole_new}
use Rattle.cp_core.proofs.system.System.boot.Goals as goal

pub invariant_of-result : goal.invariant_of-result
invariant_of-result c =
    let users = c.args.directory in
    let volumes = c.args.volumes.items in
    let kept = c.in-Ok.users.items in
    let seats = map unowned kept in
    let queues = c.in-Ok-new-2.queues in
    let many : c.len.result ≡ length kept = omega (arith, c.len.ensures, c.in-Ok.users.ok.0) in
    let none : queues.users ≡ replicate (length kept) no_files =
    c.in-Ok-new-2.ensures ∙ ap (λ (n : ℕ). replicate n no_files) many in
    let are = seats_new queues kept (length kept) none in
    let new : AreNew volumes seats users =
    subst (λ (vs : List VolumeFormat). AreNew vs seats users) c.deref-4.ensures.value
    (subst (AreNew c.deref-4.result.now seats) c.users-3.ensures.users c.in-Ok.ensures.new) in
    let lawful : (k : ℕ) → AreLawful (minidisks_at users k) =
    subst (λ (us : List DirectoryUser). (k : ℕ) → AreLawful (minidisks_at us k)) c.users-3.ensures.users
    c.in-Ok.ensures.lawful in
    let apart : AreApart users = c.users-3.ensures.apart in
    let few : length users ≤ 64 =
    subst (λ (us : List DirectoryUser). length us ≤ 64) c.users-3.ensures.users c.users-3.ensures.few in
    let there : find (user_lacks volumes) users ≡ None =
    subst (λ (vs : List VolumeFormat). find (user_lacks vs) users ≡ None) c.deref-2.ensures.value
    (subst (λ (us : List DirectoryUser). find (user_lacks c.deref-2.result.now) us ≡ None) c.users.ensures.users
    (c.missing_volume.ensures.none c.in_default.is)) in
    let inside : position (user_is_past volumes) users ≡ None =
    subst (λ (vs : List VolumeFormat). position (user_is_past vs) users ≡ None) c.deref-3.ensures.value
    (subst (λ (us : List DirectoryUser). position (user_is_past c.deref-3.result.now) us ≡ None) c.users-2.ensures.users
    (c.past_end.ensures.none c.in_default-past_end.is)) in
    let pages = c.in-Ok-pages_of.ensures.pages ∙ ap
    (λ (us : List DirectoryUser). map (λ (user : DirectoryUser). user.pages) us) c.users-4.ensures.users in
    let stored : c.in-Ok-new-3.frames.storages ≡ blank users =
    c.in-Ok-new-3.ensures.storages ∙ ap (λ (ps : List ℕ). map (λ pages. replicate (pages * 4096) 0) ps) pages in (
      subst (λ (xs : List UserParts). IsSystem xs c.in-Ok-new.volumes c.in-Ok-new-3.frames users) (sym are)
          (record {
            whole = rw stored (whole_new volumes seats users new few);
            disks = subst (AreSeated seats) (sym c.in-Ok-new.ensures.volumes)
                (seated_new volumes seats users new apart lawful there inside);
            there = subst AreThere (sym c.in-Ok-new.ensures.volumes) c.in-Ok-new.ensures.there;
            between = between_new c.in-Ok-new-3.frames.supply c.frames-2.result c.slots.result
                (new_supply c.in-Ok-new-3.frames.supply c.frames-2.result c.slots.result c.in-Ok-new-3.ensures.owners
                c.in-Ok-new-3.ensures.slots c.in-Ok-new-3.ensures.pins c.in-Ok-new-3.ensures.order
                c.in-Ok-new-3.ensures.page_ins)
                (omega (arith, c.if-frames-lt16.false, c.frames.ensures.value, c.frames-2.ensures.value));
          }),
      owners_new queues kept c.in-Ok.ensures.owners none,
    )

pub returns-in-Ok-new-3-clause-ok : goal.returns-in-Ok-new-3-clause-ok
returns-in-Ok-new-3-clause-ok c =
    let users = c.args.directory in
    let volumes = c.args.volumes.items in
    let kept = c.in-Ok.users.items in
    let seats = map unowned kept in
    let queues = c.in-Ok-new-2.queues in
    let many : c.len.result ≡ length kept = omega (arith, c.len.ensures, c.in-Ok.users.ok.0) in
    let none : queues.users ≡ replicate (length kept) no_files =
    c.in-Ok-new-2.ensures ∙ ap (λ (n : ℕ). replicate n no_files) many in
    let are = seats_new queues kept (length kept) none in
    let new : AreNew volumes seats users =
    subst (λ (vs : List VolumeFormat). AreNew vs seats users) c.deref-4.ensures.value
    (subst (AreNew c.deref-4.result.now seats) c.users-3.ensures.users c.in-Ok.ensures.new) in
    let pages = c.in-Ok-pages_of.ensures.pages ∙ ap
    (λ (us : List DirectoryUser). map (λ (user : DirectoryUser). user.pages) us) c.users-4.ensures.users in
    let stored : c.in-Ok-new-3.frames.storages ≡ blank users =
    c.in-Ok-new-3.ensures.storages ∙ ap (λ (ps : List ℕ). map (λ pages. replicate (pages * 4096) 0) ps) pages in
    let supply = new_supply c.in-Ok-new-3.frames.supply c.frames-2.result c.slots.result c.in-Ok-new-3.ensures.owners
    c.in-Ok-new-3.ensures.slots c.in-Ok-new-3.ensures.pins c.in-Ok-new-3.ensures.order
    c.in-Ok-new-3.ensures.page_ins in
    rw (are, c.in-Ok-new.ensures.volumes) (record {
      users = rw stored (new_users volumes seats users new);
      placements = placements_new volumes seats users new;
      rest = rw c.new-in-Ok-new-3.ensures.items (boot_seen _ users volumes (placements_among seats) _ _ _ _
          (supply ∙ (ap (λ (n : ℕ). free_supply n c.slots.result) c.frames-2.ensures.value ∙ ap
          (λ (n : ℕ). free_supply c.args.sizes.frames n) c.slots.ensures.value))
          (kept_new volumes seats users new));
    })

pub returns-in-Err-clause-device : goal.returns-in-Err-clause-device
returns-in-Err-clause-device c = λ failed lawful. (
    let reported = device_told c.in-Err.error
    (sym c.boot_error.ensures ∙ err_same c.boot_error.result errors.DuplicateDevice failed) in
    c.in-Err.ensures.address (ap Err reported) (subst (All HasLawfulDevices) (sym c.users-3.ensures.users) lawful))
