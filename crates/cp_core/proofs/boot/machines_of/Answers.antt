use Rattle.std.proofs.Common.{Err, refl, ◌≡◌, ◌∙◌, ◌*◌, ◌+◌, ◌++◌, [], ◌∷◌, List, ℕ, ap, sym, arith, length, map, take}
use Rattle.std.proofs.Common.{replicate, subst, false}
use Rattle.std.proofs.lemmas.List.{length-append, map-append, take_more}
use Rattle.std.proofs.lemmas.Bool.{true≢false}
use Rattle.std.proofs.lemmas.Result.{err_from_is_err_and}
use Rattle.cp_spool.specs.Queues.{no_files}
use Rattle.machine_devices.specs.Lent.{DevicesParts, devices_with}
use Rattle.cp_core.proofs.Owned.{owners_more}
use Rattle.machine_devices.specs.declared.attaching.AttachError.TheVariants as attaching
use Rattle.cp_directory.specs.Grammar.{HasLawfulDevices}
use Rattle.cp_directory.specs.Users.{DirectoryUser, addresses_of}
use Rattle.cp_directory.specs.declared.minidisk.MinidiskStatement.{MinidiskStatement}
use Rattle.machine_channels.specs.Disks.{DiskAt}
use Rattle.machine_devices.specs.Devices.{can_attach, devices_new, places_of}
use Rattle.machine_devices.specs.declared.places.Places.{Places}
use Rattle.cp_core.specs.Boot.{places_in}
use Rattle.cp_core.specs.UserMachines.{IsUnused, unowned}
use Rattle.cp_placement.specs.Seating.{AreDisks, AreLawful, seats_of}
use Rattle.cp_placement.proofs.Seated.{are_disks}
use Rattle.cp_volumes.specs.Shared.{SharedMinidisk, disks_on, placements_of}
use Rattle.cp_resident.specs.Reuse.{kept_none}
use Rattle.cp_core.specs.Whole.{IsNew}
use Rattle.cp_placement.specs.Seating.{lacks_volume, user_is_past, user_lacks}
use Rattle.std.specs.List.{list_any}
use Rattle.cp_core.proofs.Boots.{err_same, lawful_attach, lawful_on, new_more, off_new, seat_addresses}
use Rattle.cp_placement.proofs.Found.{unfound_at, unplaced_at}
use Rattle.cp_core.proofs.boot.machines_of.Goals as goal

pub loop-user-preserved : goal.loop-user-preserved
loop-user-preserved c =
    let users = c.args.users.now in
    let volumes = c.args.volumes.now in
    let i = c.loop-user.user-index in
    let user = c.user-item.result in
    let machine = c.in_ok-machine.machine in
    let pages : c.pages.result ≡ user.pages = c.pages.ensures.pages ∙ c.storage.ensures in
    let keys : machine.keys ≡ replicate (user.pages * 2) 0 =
    c.in_ok-machine.ensures.keys ∙ ap (λ (n : ℕ). replicate (n * 2) 0) pages in
    let places : c.places_in-places.result ≡ places_in user.devices =
    c.places_in-places.ensures ∙ ap places_in c.devices.ensures in
    let there : list_any (lacks_volume volumes) user.minidisks ≡ false =
    subst (λ (u : DirectoryUser). user_lacks volumes u ≡ false) (sym c.user-item.is)
    (unfound_at (user_lacks volumes) users i user c.requires.there c.loop-user-test.true) in
    let seated : machine.minidisks ≡ seats_of volumes user.minidisks =
    c.in_ok-machine.ensures.minidisks ∙ c.in-Ok.ensures.seats ∙ ap (seats_of volumes) c.minidisks.ensures in
    let disks : AreDisks volumes user.minidisks (disks_on volumes machine.minidisks) =
    subst (λ (m : List SharedMinidisk). AreDisks volumes user.minidisks (disks_on volumes m)) (sym seated)
    (are_disks volumes user.minidisks there) in
    let unused : IsUnused machine.parts (devices_new (places_in user.devices)) (disks_on volumes machine.minidisks) =
    rw c.in_ok-machine.ensures.minidisks
    (subst (λ (p : Places). IsUnused machine.parts (devices_new p) (disks_on volumes c.in-Ok.minidisks.items))
    places (c.in_ok-machine.ensures.parts volumes)) in
    let new : IsNew volumes (unowned machine) user = record {
      off = off_new volumes (unowned machine) user keys disks unused
          (ap (λ (d : DevicesParts). devices_with d no_files) c.in_ok-machine.ensures.devices ∙ ap devices_new places);
      seated = seated;
      forgot = c.in_ok-machine.ensures.kept ∙ ap (λ (m : List SharedMinidisk). kept_none (length (placements_of m)))
          (sym c.in_ok-machine.ensures.minidisks);
      sized = omega (arith, pages, c.pages.ensures.least);
    } in
    let more = new_more volumes (map unowned c.loop-user.machines.items) (take i users) (unowned machine) user
    c.loop-user.invariant.new new in
    let number : machine.devices.user ≡ length c.loop-user.machines.items =
    ap (λ (d : DevicesParts). d.user) c.in_ok-machine.ensures.devices ∙ omega
    (arith, c.new-number.ensures, c.len.ensures) in
    let taken : take (i + 1) users ≡ take i users
    ++ user ∷ [] = take_more users i user c.loop-user-test.true ∙ ap (λ (u : DirectoryUser). take i users ++ u ∷ [])
    (sym c.user-item.is) in
    let is : AreLawful user.minidisks = subst AreLawful c.minidisks.ensures c.in-Ok.ensures.lawful in
    rw (c.in-Ok-push.ensures.items, taken) (record {
      new = rw (map-append unowned c.loop-user.machines.items (machine ∷ [])) more;
      owners = owners_more c.loop-user.machines.items machine number c.loop-user.invariant.owners;
      count = omega (arith, length-append c.loop-user.machines.items (machine ∷ []), c.loop-user.invariant.count);
      lawful = lawful_on (take i users) user c.loop-user.invariant.lawful is;
    })

pub seats_of-requires : goal.seats_of-requires
seats_of-requires c =
    let volumes = c.args.volumes.now in
    let user = c.user-item.result in
    rw c.minidisks.ensures (record {
      there = subst (λ (u : DirectoryUser). user_lacks volumes u ≡ false)
          (sym c.user-item.is) (unfound_at (user_lacks volumes) c.args.users.now c.loop-user.user-index user
          c.requires.there c.loop-user-test.true);
    })

pub returns-in_err-machine-clause-address : goal.returns-in_err-machine-clause-address
returns-in_err-machine-clause-address c = λ failed lawful. (
    let users = c.args.users.now in
    let volumes = c.args.volumes.now in
    let user = c.user-item.result in
    let p = err_from_is_err_and c.from_residual.result c.from_residual.ensures.1 in
    let reported = err_same c.in_err-machine.field-0.0 attaching.Address (sym (p.1 ∙ ap Err p.2) ∙ failed) in
    let is : HasLawfulDevices user =
    subst HasLawfulDevices (sym c.user-item.is) (lawful c.loop-user.user-index user c.loop-user-test.true) in
    let places : c.places_in-places.result ≡ places_in user.devices =
    c.places_in-places.ensures ∙ ap places_in c.devices.ensures in
    let seats : c.in-Ok.minidisks.items ≡ seats_of volumes user.minidisks =
    c.in-Ok.ensures.seats ∙ ap (seats_of volumes) c.minidisks.ensures in
    let same : places_of c.places_in-places.result
    ++ map (λ (d : SharedMinidisk). d.address) c.in-Ok.minidisks.items ≡ addresses_of user =
    rw (places, seats, seat_addresses volumes user.minidisks) refl in
    true≢false (sym (lawful_attach user is) ∙
    (ap can_attach (sym same) ∙ c.in_err-machine.ensures.address (ap Err reported))))
