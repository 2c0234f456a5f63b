-- The minidisks of users stay apart where the last user gets a device or a minidisk more.
use Rattle.std.proofs.Common.{◌≡◌, ℕ, ◌-◌, ◌<◌, ◌≤◌, false, List, [], ◌∷◌, ◌++◌, length, get_or, None, Result, Ok, Err}
use Rattle.std.proofs.Common.{IfOk, OnErr, refl, ap, sym, ◌∙◌, subst, length-set, arith}
use Rattle.std.specs.List.{AllPairs}
use Rattle.std.proofs.Math.ListN.{set}
use Rattle.std.proofs.lemmas.List.{get_or_default}
use Rattle.std.proofs.lemmas.List.Quantifiers.{all_pairs_push}
use Rattle.cp_directory.specs.Extents.{conflicts}
use Rattle.cp_directory.specs.Users.{AreApart, DirectoryUser, first_conflict, last_user, minidisks_of, new_user}
use Rattle.cp_directory.specs.Users.{with_device, with_last, with_minidisk}
use Rattle.cp_directory.specs.declared.devices.DeviceKind.{DeviceKind}
use Rattle.cp_directory.specs.declared.minidisk.MinidiskStatement.{MinidiskStatement}
use Rattle.cp_directory.proofs.Attached.{disk_last, kept_disks}
use Rattle.cp_directory.proofs.Conflicts.{conflict_turned, none_found, taken}

-- two minidisks do not conflict
abbrev Apart : MinidiskStatement → MinidiskStatement → Type 0
Apart one other = conflicts one.extent other.extent ≡ false

-- what is true of the users of every directory
abbrev Holds : List DirectoryUser → Type 0
Holds users = (length users ≤ 64) × AreApart users

-- a user in place of another with the same minidisks
same_disks : (users : List DirectoryUser) (n : ℕ) (new : DirectoryUser)
    → minidisks_of (set users n new) ≡ minidisks_of users → Holds users → Holds (set users n new)
same_disks users n new same h = (omega (arith, h.0, length-set users n new), subst (AllPairs Apart) (sym same) h.1)

-- a device more of a user
pub device_more : (kind : DeviceKind) (address : ℕ) (users : List DirectoryUser) (n : ℕ) (user new : DirectoryUser)
    → Holds users → user ≡ get_or users n user → new ≡ with_device kind address user → Holds (set users n new)
device_more kind address users n user new h here is =
    let made : new ≡ with_device kind address (get_or users n user) = is ∙ ap (with_device kind address) here in
    same_disks users n new (ap (λ (u : DirectoryUser). minidisks_of (set users n u)) made
    ∙ kept_disks (with_device kind address) (λ u. refl) users n user) h

-- a minidisk more that conflicts with none
apart_more : (disk : MinidiskStatement) (disks : List MinidiskStatement) → AllPairs Apart disks
    → first_conflict disk.extent disks ≡ None → AllPairs Apart (disks ++ disk ∷ [])
apart_more disk disks apart none =
    let free = none_found disk.extent disks none in
    all_pairs_push Apart disks disk apart (λ k d less.
    let other = get_or disks k d in
    taken other.extent disk.extent (λ c. free k d less (conflict_turned other.extent disk.extent c))
    (conflicts other.extent disk.extent) refl)

-- the last user with a minidisk more, which conflicts with none
last_more : (disk : MinidiskStatement) (users : List DirectoryUser) (new : DirectoryUser) → Holds users
    → 0 < length users → first_conflict disk.extent (minidisks_of users) ≡ None
    → new ≡ with_minidisk disk (last_user users)
    → Holds (set users (length users - 1) new)
last_more disk users new h some none is =
    let disks : minidisks_of (set users (length users - 1) new) ≡ minidisks_of users ++ disk ∷ [] = ap
    (λ (u : DirectoryUser). minidisks_of (set users (length users - 1) u)) is ∙ disk_last disk users some in (
      omega (arith, h.0, length-set users (length users - 1) new),
      subst (AllPairs Apart) (sym disks) (apart_more disk (minidisks_of users) h.1 none),
    )

-- the same where the growth may be refused, which leaves the user as it was
pub disk_more : {T E : Type 0} (disk : MinidiskStatement) (users : List DirectoryUser) (user new : DirectoryUser)
    (r : Result T E) → Holds users → 0 < length users → first_conflict disk.extent (minidisks_of users) ≡ None
    → user ≡ get_or users (length users - 1) user → IfOk r (λ _. new ≡ with_minidisk disk user) → OnErr r (new ≡ user)
    → Holds (set users (length users - 1) new)
disk_more disk users user new (Ok x) h some none here ok err =
    let last : user ≡ last_user users = here ∙ get_or_default users (length users - 1) user (new_user [] 0)
    (omega arith) in
    last_more disk users new h some none (ok ∙ ap (with_minidisk disk) last)
disk_more disk users user new (Err e) h some none here ok err =
    same_disks users (length users - 1) new (ap (λ (u : DirectoryUser). minidisks_of (set users (length users - 1) u))
    (err ∙ here) ∙ kept_disks (λ u. u) (λ u. refl) users (length users - 1) user) h
