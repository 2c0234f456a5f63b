-- A device more among the devices of a user, and a user changed among users.
use Rattle.std.proofs.Common.{◌≡◌, ℕ, ◌-◌, ◌==◌, ◌<◌, ◌≤◌, zero, suc, ◌||◌, Bool, true, false, eqb, All, List, [], ◌∷◌}
use Rattle.std.proofs.Common.{◌++◌, length, get_or, map, Option, Some, None, refl, ap, sym, ◌∙◌, subst, append_assoc}
use Rattle.std.proofs.Common.{length-append, arith}
use Rattle.std.specs.List.{list_any}
use Rattle.std.specs.Option.{is_some, option_to_list}
use Rattle.std.proofs.Math.ListN.{set}
use Rattle.std.proofs.lemmas.List.{append-nil, map-append}
use Rattle.std.proofs.lemmas.List.Elements.{All-cons, All-head, All-tail}
use Rattle.std.proofs.lemmas.Bool.Decides.{nat_tests}
use Rattle.cp_directory.specs.Devices.{place_of, places_of}
use Rattle.cp_directory.specs.Users.{DirectoryUser, addresses_of, has_device, minidisks_of, new_user, with_device}
use Rattle.cp_directory.specs.Users.{with_last, with_minidisk}
use Rattle.cp_directory.specs.Grammar.{AreDifferent, HasLawfulDevices}
use Rattle.cp_directory.specs.declared.devices.DeviceKind.{DeviceKind}
use Rattle.cp_directory.specs.declared.devices.DeviceKind.TheVariants.{Console, Reader, Punch, Printer}
use Rattle.cp_directory.specs.declared.minidisk.MinidiskStatement.{MinidiskStatement}

-- ---- a number put among others

none_of_or : (a b : Bool) → (a || b) ≡ false → (a ≡ false) × (b ≡ false)
none_of_or true b h = cc
none_of_or false b h = (refl, h)

turned : (a b : ℕ) → eqb a b ≡ false → eqb b a ≡ false
turned a b h = grind (arith, nat_tests)

absent_on : (x a : ℕ) (before after : List ℕ) (b : Bool) → (b || list_any (λ other. other == x) (before ++ after)) ≡
    false → eqb a x ≡ false
    → (list_any (λ other. other == x) (before ++ after) ≡ false
    → list_any (λ other. other == x) (before ++ a ∷ after) ≡ false)
    → (b || list_any (λ other. other == x) (before ++ a ∷ after)) ≡ false
absent_on x a before after true none other hyp = cc
absent_on x a before after false none other hyp = hyp none

absent_more : (x a : ℕ) (before after : List ℕ) → list_any (λ other. other == x) (before ++ after) ≡ false
    → eqb a x ≡ false → list_any (λ other. other == x) (before ++ a ∷ after) ≡ false
absent_more x a [] after none other = rw (other, none) refl
absent_more x a (b ∷ before) after none other = absent_on x a before after (eqb b x) none other
    (λ k. absent_more x a before after k other)

different_more : (a : ℕ) (before after : List ℕ) → AreDifferent (before ++ after)
    → list_any (λ other. other == a) (before ++ after) ≡ false → AreDifferent (before ++ a ∷ after)
different_more a [] after h none = (none, h)
different_more a (b ∷ before) after h none =
    let k = none_of_or (eqb b a) (list_any (λ other. other == a) (before ++ after)) none in
    (absent_more b a before after h.0 (turned b a k.0), different_more a before after h.1 k.1)

all_more : (P : ℕ → Type 0) (a : ℕ) (before after : List ℕ) → All P (before ++ after) → P a
    → All P (before ++ a ∷ after)
all_more P a [] after h p = All-cons P a after p h
all_more P a (b ∷ before) after h p = All-cons P b (before ++ a ∷ after) (All-head P b (before ++ after) h)
    (all_more P a before after (All-tail P b (before ++ after) h) p)

-- the addresses of one user are those of another and one more
record OneMore (user more : DirectoryUser) (address : ℕ) : Type 0 where
  before : List ℕ
  after : List ℕ
  old : addresses_of user ≡ before ++ after
  new : addresses_of more ≡ before ++ address ∷ after

-- a user who has room for a device, and none of its address, keeps what is lawful with it
lawful_one_more : (user more : DirectoryUser) (address : ℕ) → OneMore user more address → HasLawfulDevices user
    → length (addresses_of user) < 32 → has_device address user ≡ false → address ≤ 0x5FF → HasLawfulDevices more
lawful_one_more user more address m l room new low =
    let P : ℕ → Type 0 = λ a. a ≤ 0x5FF in
    let none : list_any (λ other. other == address) (m.before ++ m.after) ≡ false = subst
    (λ (l : List ℕ). list_any (λ other. other == address) l ≡ false) m.old new in
    let different : AreDifferent (m.before ++ address ∷ m.after) = different_more address m.before m.after
    (subst AreDifferent m.old l.different) none in
    let lows : All P (m.before ++ address ∷ m.after) = all_more P address m.before m.after
    (subst (All P) m.old l.low) low in
    let long : length (m.before ++ address ∷ m.after) ≤ 32 = let old : length (m.before ++ m.after) < 32 = subst
    (λ (l : List ℕ). length l < 32) m.old room in omega (
      arith,
      length-append m.before (address ∷ m.after),
      length-append m.before m.after,
    ) in
    record {
      few = subst (λ (l : List ℕ). length l ≤ 32) (sym m.new) long;
      different = subst AreDifferent (sym m.new) different;
      low = subst (All P) (sym m.new) lows;
    }

-- ---- a device more

-- What is not there is None.
pub none_there : (o : Option ℕ) → is_some o ≡ false → o ≡ None
none_there None h = refl
none_there (Some a) h = cc

three_of : (a b c disks : List ℕ) → (a ++ (b ++ c)) ++ disks ≡ (a ++ b) ++ (c ++ disks)
three_of a b c disks = simp append_assoc

four_of : (a b c d disks : List ℕ) → (a ++ (b ++ (c ++ d))) ++ disks ≡ (a ++ (b ++ c)) ++ (d ++ disks)
four_of a b c d disks = simp append_assoc

device_more : (kind : DeviceKind) (address : ℕ) (user : DirectoryUser) → place_of user.devices kind ≡ None
    → OneMore user (with_device kind address user) address
device_more Console address user none =
    let d = user.devices in
    record {
      before = [];
      after = (option_to_list d.reader ++ (option_to_list d.punch ++ option_to_list d.printer)) ++ map
          (λ (disk : MinidiskStatement). disk.address) user.minidisks;
      old = rw none refl;
      new = refl;
    }
device_more Reader address user none =
    let d = user.devices in
    let disks = map (λ (disk : MinidiskStatement). disk.address) user.minidisks in
    record {
      before = option_to_list d.console;
      after = (option_to_list d.punch ++ option_to_list d.printer) ++ disks;
      old = rw none (append_assoc (option_to_list d.console)
          (option_to_list d.punch ++ option_to_list d.printer) disks);
      new = append_assoc (option_to_list d.console) (address ∷ (option_to_list d.punch ++ option_to_list d.printer))
          disks;
    }
device_more Punch address user none =
    let d = user.devices in
    let disks = map (λ (disk : MinidiskStatement). disk.address) user.minidisks in
    record {
      before = option_to_list d.console ++ option_to_list d.reader;
      after = option_to_list d.printer ++ disks;
      old = rw none (three_of (option_to_list d.console) (option_to_list d.reader) (option_to_list d.printer) disks);
      new = three_of (option_to_list d.console) (option_to_list d.reader) (address ∷ option_to_list d.printer) disks;
    }
device_more Printer address user none =
    let d = user.devices in
    let disks = map (λ (disk : MinidiskStatement). disk.address) user.minidisks in
    record {
      before = option_to_list d.console ++ (option_to_list d.reader ++ option_to_list d.punch);
      after = disks;
      old = rw none (four_of (option_to_list d.console) (option_to_list d.reader) (option_to_list d.punch) [] disks);
      new = four_of (option_to_list d.console) (option_to_list d.reader) (option_to_list d.punch) (address ∷ []) disks;
    }

disk_more : (disk : MinidiskStatement) (user : DirectoryUser) → OneMore user (with_minidisk disk user) disk.address
disk_more disk user = record {
  before = addresses_of user;
  after = [];
  old = sym (append-nil (addresses_of user));
  new = ap (λ (l : List ℕ). places_of user.devices ++ l) (map-append
      (λ (d : MinidiskStatement). d.address) user.minidisks (disk ∷ []))
      ∙ sym (append_assoc (places_of user.devices) (map (λ (d : MinidiskStatement). d.address) user.minidisks)
      (disk.address ∷ []));
}

-- A user to whom a new device is added at a free address has lawful devices.
pub lawful_device : (kind : DeviceKind) (address : ℕ) (user : DirectoryUser) → HasLawfulDevices user
    → place_of user.devices kind ≡ None → length (addresses_of user) < 32 → has_device address user ≡ false
    → address ≤ 0x5FF
    → HasLawfulDevices (with_device kind address user)
lawful_device kind address user l none room new low = lawful_one_more user (with_device kind address user) address
    (device_more kind address user none) l room new low

-- A user to whom a minidisk is added at a free address has lawful devices.
pub lawful_disk : (disk : MinidiskStatement) (user : DirectoryUser) → HasLawfulDevices user
    → length (addresses_of user) < 32 → has_device disk.address user ≡ false → disk.address ≤ 0x5FF
    → HasLawfulDevices (with_minidisk disk user)
lawful_disk disk user l room new low = lawful_one_more user (with_minidisk disk user) disk.address
    (disk_more disk user) l room new low

-- ---- a user changed among users

-- what a change keeps of every user, it keeps at each place
pub kept : {B : Type 0} (f : DirectoryUser → B) (change : DirectoryUser → DirectoryUser)
    → ((u : DirectoryUser) → f (change u) ≡ f u) → (users : List DirectoryUser) (n k : ℕ) (e d : DirectoryUser)
    → f (get_or (set users n (change (get_or users n e))) k d) ≡ f (get_or users k d)
kept f change same [] n k e d = refl
kept f change same (u ∷ us) zero zero e d = same u
kept f change same (u ∷ us) zero (suc k) e d = refl
kept f change same (u ∷ us) (suc n) zero e d = refl
kept f change same (u ∷ us) (suc n) (suc k) e d = kept f change same us n k e d

-- A change of a user that leaves his minidisks leaves those of all.
pub kept_disks : (change : DirectoryUser → DirectoryUser) → ((u : DirectoryUser) → (change u).minidisks ≡ u.minidisks)
    → (users : List DirectoryUser) (n : ℕ) (e : DirectoryUser)
    → minidisks_of (set users n (change (get_or users n e))) ≡ minidisks_of users
kept_disks change same [] n e = refl
kept_disks change same (u ∷ us) zero e = ap (λ (l : List MinidiskStatement). l ++ minidisks_of us) (same u)
kept_disks change same (u ∷ us) (suc n) e = ap (λ (l : List MinidiskStatement). u.minidisks ++ l)
    (kept_disks change same us n e)

-- a first user stays where there is another
with_rest : (change : DirectoryUser → DirectoryUser) (u v : DirectoryUser) (us : List DirectoryUser)
    → with_last change (u ∷ v ∷ us) ≡ u ∷ with_last change (v ∷ us)
with_rest change u v us = let e : length (u ∷ v ∷ us) - 1 ≡ suc (length (v ∷ us) - 1) = omega arith in rw e refl

-- a minidisk of the last user is the last of all
pub disk_last : (disk : MinidiskStatement) (users : List DirectoryUser) → 0 < length users
    → minidisks_of (with_last (with_minidisk disk) users) ≡ minidisks_of users ++ disk ∷ []
disk_last disk [] h = absurd (omega arith)
disk_last disk (u ∷ []) h = append-nil (u.minidisks ++ disk ∷ [])
    ∙ ap (λ (l : List MinidiskStatement). l ++ disk ∷ []) (sym (append-nil u.minidisks))
disk_last disk (u ∷ v ∷ us) h =
    ap minidisks_of (with_rest (with_minidisk disk) u v us)
    ∙ ap (λ (l : List MinidiskStatement). u.minidisks ++ l) (disk_last disk (v ∷ us) (omega arith))
    ∙ sym (append_assoc u.minidisks (minidisks_of (v ∷ us)) (disk ∷ []))

-- a new user has no minidisk
pub disks_kept : (name : List ℕ) (pages : ℕ) (users : List DirectoryUser)
    → minidisks_of (users ++ new_user name pages ∷ []) ≡ minidisks_of users
disks_kept name pages [] = refl
disks_kept name pages (u ∷ us) = ap (λ (l : List MinidiskStatement). u.minidisks ++ l) (disks_kept name pages us)
