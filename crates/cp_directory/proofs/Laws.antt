-- What the lines of a directory state is lawful.
use Rattle.std.proofs.Common.{◌≡◌, ℕ, ◌+◌, ◌-◌, ◌/◌, ◌<◌, ◌≤◌, ◌⊎◌, inl, inr, true, false, All, List, [], ◌∷◌, ◌++◌}
use Rattle.std.proofs.Common.{length, get_or, Ok, refl, ap, sym, ◌∙◌, subst, length-append, arith}
use Rattle.std.specs.List.{AllPairs}
use Rattle.std.specs.Option.{is_some}
use Rattle.std.specs.Str.{bytes_eq}
use Rattle.std.proofs.lemmas.Bool.Decides.{nat_tests}
use Rattle.std.proofs.lemmas.List.{length-set}
use Rattle.std.proofs.lemmas.List.Elements.{All-get_or, All-nil, All-push, All-set, All-weaker}
use Rattle.std.proofs.lemmas.List.Folds.{list_any_at}
use Rattle.std.proofs.lemmas.List.Quantifiers.{all_pairs_push}
use Rattle.text_words.specs.Lines.{lines_of}
use Rattle.text_words.specs.Words.{words_of}
use Rattle.cp_directory.specs.Names.{is_name}
use Rattle.cp_directory.specs.Sizes.{is_size}
use Rattle.cp_directory.specs.Devices.{place_of}
use Rattle.cp_directory.specs.Extents.{Extent, is_volser}
use Rattle.cp_directory.specs.Users.{DirectoryUser, addresses_of, has_device, last_user, minidisks_of, new_user}
use Rattle.cp_directory.specs.Users.{with_device, with_last, with_minidisk}
use Rattle.cp_directory.specs.Statements.{Stated, User, Device, Disk, added, has_name}
use Rattle.cp_directory.specs.Directories.{directory_of}
use Rattle.cp_directory.specs.Grammar.{Breaks, Conflicts, Continues, HasLawfulDevices, HasLawfulExtent, IsLawful, Says}
use Rattle.cp_directory.specs.Grammar.{States}
use Rattle.cp_directory.specs.declared.devices.DeviceKind.{DeviceKind}
use Rattle.cp_directory.specs.declared.devices.DeviceKind.TheVariants.{Console, Reader, Punch, Printer}
use Rattle.cp_directory.specs.declared.faults.LineFault.TheVariants.{Syntax, DuplicateUser, DuplicateDevice, BadStorage}
use Rattle.cp_directory.specs.declared.faults.LineFault.TheVariants.{BadExtent, Overlap, TooMany}
use Rattle.cp_directory.specs.declared.minidisk.MinidiskStatement.{MinidiskStatement}
use Rattle.cp_directory.proofs.Attached.{disk_last, disks_kept, kept, kept_disks, lawful_device, lawful_disk}
use Rattle.cp_directory.proofs.Attached.{none_there}
use Rattle.cp_directory.proofs.Conflicts.{all_free, conflict_turned}
use Rattle.cp_directory.proofs.Grammars.{reads}
use Rattle.cp_directory.proofs.Places.{always, never}

within : (k : ℕ) → is_size k ≡ true → (2 ≤ k / 4) × (k / 4 ≤ 1024)
within k h =
    let least : 8 ≤ k = grind (arith, nat_tests) in
    let most : k ≤ 4096 = grind (arith, nat_tests) in
    (omega arith, omega arith)

-- the names of two users differ
abbrev Differ : DirectoryUser → DirectoryUser → Type 0
Differ one other = bytes_eq one.name other.name ≡ false

abbrev IsSized : DirectoryUser → Type 0
IsSized user = (2 ≤ user.pages) × (user.pages ≤ 1024)

-- two minidisks do not conflict
abbrev AreApart : MinidiskStatement → MinidiskStatement → Type 0
AreApart one other = Conflicts one.extent other.extent → ⊥

abbrev AreOrdered : MinidiskStatement → MinidiskStatement → Type 0
AreOrdered one other = one.line < other.line

-- what is lawful of minidisks, before the line of this number
record DisksBefore (number : ℕ) (disks : List MinidiskStatement) : Type 0 where
  extents : All HasLawfulExtent disks
  apart : AllPairs AreApart disks
  ordered : AllPairs AreOrdered disks
  earlier : All (λ disk. disk.line < number) disks

-- what is lawful of users but for their minidisks
record UsersSoFar (users : List DirectoryUser) : Type 0 where
  few : length users ≤ 64
  different : AllPairs Differ users
  named : All (λ user. is_name user.name ≡ true) users
  sized : All IsSized users
  attached : All HasLawfulDevices users

record Before (number : ℕ) (users : List DirectoryUser) : Type 0 where
  users_so_far : UsersSoFar users
  disks : DisksBefore number (minidisks_of users)

disks_later : (number : ℕ) (disks : List MinidiskStatement) → DisksBefore number disks → DisksBefore (number + 1) disks
disks_later number disks h = record {
  extents = h.extents;
  apart = h.apart;
  ordered = h.ordered;
  earlier = All-weaker (λ (d : MinidiskStatement). d.line < number) (λ (d : MinidiskStatement). d.line < number + 1)
      (λ d less. omega arith) disks h.earlier;
}

later : (number : ℕ) (users : List DirectoryUser) → Before number users → Before (number + 1) users
later number users h = record { users_so_far = h.users_so_far; disks = disks_later number (minidisks_of users) h.disks }

-- ---- a user more

user_more : (before : List DirectoryUser) (name : List ℕ) (k : ℕ) → UsersSoFar before → is_name name ≡ true
    → (Breaks before (User name k) DuplicateUser → ⊥) → (Breaks before (User name k) BadStorage → ⊥)
    → (Breaks before (User name k) TooMany → ⊥)
    → UsersSoFar (before ++ new_user name (k / 4) ∷ [])
user_more before name k l named new fits room =
    let user : DirectoryUser = new_user name (k / 4) in
    let space : length before < 64 = let full : 64 ≤ length before → ⊥ = room in omega arith in
    record {
      few = omega (arith, length-append before (user ∷ []));
      different = all_pairs_push Differ before user l.different
          (λ i d less. never _ (λ yes. new (list_any_at (has_name name) before i d less yes)));
      named = All-push (λ (u : DirectoryUser). is_name u.name ≡ true) before user l.named named;
      sized = All-push IsSized before user l.sized (within k (always (is_size k) fits));
      attached = All-push HasLawfulDevices before user l.attached
          (record { few = omega arith; different = tt; low = All-nil (λ (a : ℕ). a ≤ 0x5FF) });
    }

-- ---- the last user changed

some_user : (users : List DirectoryUser) → (users ≡ [] → ⊥) → 0 < length users
some_user [] h = absurd (h refl)
some_user (u ∷ us) h = omega arith

last_changed : (change : DirectoryUser → DirectoryUser) (users : List DirectoryUser)
    → ((u : DirectoryUser) → (change u).name ≡ u.name) → ((u : DirectoryUser) → (change u).pages ≡ u.pages)
    → 0 < length users → UsersSoFar users
    → HasLawfulDevices (change (last_user users)) → UsersSoFar (with_last change users)
last_changed change users names sizes some l attached =
    let n = length users - 1 in
    let nobody : DirectoryUser = new_user [] 0 in
    let user : DirectoryUser = last_user users in
    let inside : length users - 1 < length users = omega arith in
    let same_length = length-set users n (change user) in
    let Named : DirectoryUser → Type 0 = λ u. is_name u.name ≡ true in
    record {
      few = omega (arith, same_length, l.few);
      different = λ i j d less there.
          let old : Differ (get_or users i d) (get_or users j d) = l.different i j d less
          (omega (arith, same_length)) in
          ap (λ (w : List ℕ). bytes_eq w (get_or (with_last change users) j d).name)
          (kept (λ (u : DirectoryUser). u.name) change names users n i nobody d)
          ∙ ap (bytes_eq (get_or users i d).name) (kept (λ (u : DirectoryUser). u.name) change names users n j nobody d)
          ∙ old;
      named = All-set Named users n (change user) (subst (λ (w : List ℕ). is_name w ≡ true) (sym (names user))
          (All-get_or Named users n nobody inside l.named)) l.named;
      sized = All-set IsSized users n (change user) (subst (λ p. (2 ≤ p) × (p ≤ 1024)) (sym (sizes user))
          (All-get_or IsSized users n nobody inside l.sized)) l.sized;
      attached = All-set HasLawfulDevices users n (change user) attached l.attached;
    }

lawful_last : (users : List DirectoryUser) → 0 < length users → UsersSoFar users → HasLawfulDevices (last_user users)
lawful_last users some l = All-get_or HasLawfulDevices users (length users - 1) (new_user [] 0) (omega arith) l.attached

-- the address that words say is low
low_device : (words : List (List ℕ)) (kind : DeviceKind) (address : ℕ) → Says words (Device kind address)
    → address ≤ 0x5FF
low_device words Console address h = h.placed.low
low_device words Reader address h = h.placed.low
low_device words Punch address h = h.placed.low
low_device words Printer address h = h.placed.low

device_more : (number : ℕ) (before : List DirectoryUser) (line : List ℕ) (kind : DeviceKind) (address : ℕ)
    → Before number before → States before line (Device kind address)
    → Before number (with_last (with_device kind address) before)
device_more number before line kind address b h =
    let some : 0 < length before = some_user before (h.right Syntax) in
    let user : DirectoryUser = last_user before in
    let room : length (addresses_of user) < 32 = let full : 32 ≤ length (addresses_of user)
    → ⊥ = λ k. h.right TooMany (inl k) in omega arith in
    let none = none_there (place_of user.devices kind) (never (is_some (place_of user.devices kind))
    (λ k. h.right TooMany (inr k))) in
    let new = never (has_device address user) (h.right DuplicateDevice) in
    let disks = kept_disks (with_device kind address) (λ u. refl) before (length before - 1) (new_user [] 0) in
    record {
      users_so_far = last_changed (with_device kind address) before (λ u. refl) (λ u. refl) some b.users_so_far
          (lawful_device kind address user (lawful_last before some b.users_so_far) none room new
          (low_device (words_of line) kind address h.says));
      disks = subst (DisksBefore number) (sym disks) b.disks;
    }

-- ---- a minidisk more

lawful_extent : (disk : MinidiskStatement) → ((disk.extent.count ≡ 0) ⊎ (808 < disk.extent.start + disk.extent.count)
    → ⊥) → is_volser disk.extent.volser ≡ true → HasLawfulExtent disk
lawful_extent disk h named = record {
  some = let none : disk.extent.count ≡ 0 → ⊥ = λ k. h (inl k) in omega arith;
  within = let past : 808 < disk.extent.start + disk.extent.count → ⊥ = λ k. h (inr k) in omega arith;
  named = named;
}

disks_more : (number : ℕ) (disks : List MinidiskStatement) (disk : MinidiskStatement) → DisksBefore number disks
    → HasLawfulExtent disk → All (λ other. Conflicts disk.extent other.extent → ⊥) disks → disk.line ≡ number
    → DisksBefore (number + 1) (disks ++ disk ∷ [])
disks_more number disks disk b lawful free placed =
    let l = disks_later number disks b in
    record {
      extents = All-push HasLawfulExtent disks disk b.extents lawful;
      apart = all_pairs_push AreApart disks disk b.apart (λ k d less c. free k d less
          (conflict_turned (get_or disks k d).extent disk.extent c));
      ordered = all_pairs_push AreOrdered disks disk b.ordered (λ k d less. let early = b.earlier k d less in
          omega arith);
      earlier = All-push (λ (d : MinidiskStatement). d.line < number + 1) disks disk l.earlier (omega arith);
    }

disk_more : (number : ℕ) (before : List DirectoryUser) (line : List ℕ) (address : ℕ) (extent : Extent)
    → Before number before → States before line (Disk address extent)
    → Before (number + 1) (added number before (Disk address extent))
disk_more number before line address extent b h =
    let some : 0 < length before = some_user before (h.right Syntax) in
    let user : DirectoryUser = last_user before in
    let disk : MinidiskStatement = record { line = number; address = address; extent = extent } in
    let room : length (addresses_of user) < 32 = let full : 32 ≤ length (addresses_of user) → ⊥ = h.right TooMany in
    omega arith in
    let new = never (has_device address user) (h.right DuplicateDevice) in
    let free = all_free extent (minidisks_of before) (λ first. h.right (Overlap first)) in
    record {
      users_so_far = last_changed (with_minidisk disk) before (λ u. refl) (λ u. refl) some b.users_so_far
          (lawful_disk disk user (lawful_last before some b.users_so_far) room new h.says.placed.low);
      disks = subst (DisksBefore (number + 1)) (sym (disk_last disk before some))
          (disks_more number (minidisks_of before) disk b.disks
          (lawful_extent disk (h.right BadExtent) h.says.named) free refl);
    }

-- ---- the lines of a directory

before_more : (number : ℕ) (before : List DirectoryUser) (line : List ℕ) (s : Stated) → Before number before
    → States before line s → Before (number + 1) (added number before s)
before_more number before line (User name k) b h = later number (before ++ new_user name (k / 4) ∷ []) (record {
  users_so_far = user_more before name k b.users_so_far h.says.named (h.right DuplicateUser) (h.right BadStorage)
      (h.right TooMany);
  disks = subst (DisksBefore number) (sym (disks_kept name (k / 4) before)) b.disks;
})
before_more number before line (Device kind address) b h = later number (with_last (with_device kind address) before)
    (device_more number before line kind address b h)
before_more number before line (Disk address extent) b h = disk_more number before line address extent b h

so_far : (number : ℕ) (users : List DirectoryUser) → Before number users → IsLawful users
so_far number users b = record {
  few = b.users_so_far.few;
  different = b.users_so_far.different;
  named = b.users_so_far.named;
  sized = b.users_so_far.sized;
  attached = b.users_so_far.attached;
  extents = b.disks.extents;
  apart = b.disks.apart;
  ordered = b.disks.ordered;
}

lawful_on : (number : ℕ) (before : List DirectoryUser) (lines : List (List ℕ)) (users : List DirectoryUser)
    → Before number before → Continues number before lines users → IsLawful users
lawful_on number before [] users b h = subst IsLawful (sym h) (so_far number before b)
lawful_on number before (line ∷ lines) users b h = elim h [
  | inl k ↦ lawful_on (number + 1) before lines users (later number before b) k.1
  | inr k ↦ lawful_on (number + 1) (added number before k.0) lines users (before_more number before line k.0 b k.1) k.2
]

nobody : UsersSoFar []
nobody = record {
  few = omega arith;
  different = λ i j d less there. absurd (omega arith);
  named = All-nil (λ (u : DirectoryUser). is_name u.name ≡ true);
  sized = All-nil IsSized;
  attached = All-nil HasLawfulDevices;
}

no_disk : DisksBefore 1 []
no_disk = record {
  extents = All-nil HasLawfulExtent;
  apart = λ i j d less there. absurd (omega arith);
  ordered = λ i j d less there. absurd (omega arith);
  earlier = All-nil (λ (d : MinidiskStatement). d.line < 1);
}

-- A directory that is read is lawful.
pub lawful : (text : List ℕ) (users : List DirectoryUser) → directory_of text ≡ Ok users → IsLawful users
lawful text users h = lawful_on 1 [] (lines_of text) users (record { users_so_far = nobody; disks = no_disk })
    ((reads text).0 users h)
