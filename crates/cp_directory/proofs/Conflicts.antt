-- The test of a conflict finds whether there is one, and the first of several.
use Rattle.std.proofs.Common.{◌≡◌, ℕ, ◌+◌, ◌<◌, ◌≤◌, ◌⊎◌, inl, inr, ◌&&◌, Bool, true, false, not, cond, ltb, max, min}
use Rattle.std.proofs.Common.{All, List, [], ◌∷◌, ◌++◌, Option, Some, None, refl, ap, sym, ◌∙◌, arith}
use Rattle.std.specs.List.{find}
use Rattle.std.specs.Option.{option_map}
use Rattle.std.specs.Str.{bytes_eq}
use Rattle.std.proofs.lemmas.Bool.Decides.{nat_tests}
use Rattle.std.proofs.lemmas.List.Elements.{All-nil, All-cons, All-head, All-tail}
use Rattle.std.proofs.lemmas.Slice.Eq.{bytes_eq-Decides}
use Rattle.cp_directory.specs.Extents.{Extent, conflicts, is_read_only, shares_cylinder}
use Rattle.cp_directory.specs.Users.{first_conflict}
use Rattle.cp_directory.specs.Grammar.{Conflicts, IsFirstConflict}
use Rattle.cp_directory.specs.declared.extent.DiskMode.{DiskMode}
use Rattle.cp_directory.specs.declared.extent.DiskMode.TheVariants.{ReadOnly, Writable}
use Rattle.cp_directory.specs.declared.minidisk.MinidiskStatement.{MinidiskStatement}

-- Three conditions that hold together hold each.
pub all_three : (a b c : Bool) → (a && b && c) ≡ true → (a ≡ true) × (b ≡ true) × (c ≡ true)
all_three true true true h = (refl, refl, refl)
all_three true true false h = cc
all_three true false c h = cc
all_three false b c h = cc

writable : (m n : DiskMode) → not (is_read_only m && is_read_only n) ≡ true → (m ≡ Writable) ⊎ (n ≡ Writable)
writable Writable n h = inl refl
writable ReadOnly Writable h = inr refl
writable ReadOnly ReadOnly h = cc

not_both : (m n : DiskMode) → (m ≡ Writable) ⊎ (n ≡ Writable) → not (is_read_only m && is_read_only n) ≡ true
not_both Writable n h = refl
not_both ReadOnly Writable h = refl
not_both ReadOnly ReadOnly h = elim h [ inl e ↦ cc | inr e ↦ cc ]

-- the first cylinder that both may have is the later of their first ones
shared : (s c t d : ℕ) → ltb (max s t) (min (s + c) (t + d)) ≡ true → (s ≤ max s t) × (max s t < s + c) × (t ≤ max s t)
    × (max s t < t + d)
shared s c t d h =
    let less : max s t < min (s + c) (t + d) = grind (arith, nat_tests) in
    (omega arith, omega arith, omega arith, omega arith)

shares : (s c t d k : ℕ) → s ≤ k → k < s + c → t ≤ k → k < t + d → ltb (max s t) (min (s + c) (t + d)) ≡ true
shares s c t d k a b e f =
    let less : max s t < min (s + c) (t + d) = omega arith in
    grind (arith, nat_tests)

-- what the test finds is a conflict
pub conflict_found : (one other : Extent) → conflicts one other ≡ true → Conflicts one other
conflict_found one other h =
    let three = all_three (bytes_eq one.volser other.volser) (shares_cylinder one other)
    (not (is_read_only one.mode && is_read_only other.mode)) h in
    let both = shared one.start one.count other.start other.count three.1 in
    record {
      same = (bytes_eq-Decides one.volser other.volser).0 three.0;
      cylinder = max one.start other.start;
      in_one = (both.0, both.1);
      in_other = (both.2, both.3);
      written = writable one.mode other.mode three.2;
    }

-- and a conflict is found
pub conflict_again : (one other : Extent) → Conflicts one other → conflicts one other ≡ true
conflict_again one other h =
    let same : bytes_eq one.volser other.volser ≡ true = (bytes_eq-Decides one.volser other.volser).1 h.same in
    let cylinder : shares_cylinder one other ≡ true = shares one.start one.count other.start other.count h.cylinder
    h.in_one.0 h.in_one.1 h.in_other.0 h.in_other.1 in
    rw (same, cylinder, not_both one.mode other.mode h.written) refl

-- If one extent conflicts with another, the other conflicts with it.
pub conflict_turned : (one other : Extent) → Conflicts one other → Conflicts other one
conflict_turned one other h = record {
  same = sym h.same;
  cylinder = h.cylinder;
  in_one = h.in_other;
  in_other = h.in_one;
  written = elim h.written [ inl e ↦ inr e | inr e ↦ inl e ];
}

-- where the test fails there is none
free : (one other : Extent) → conflicts one other ≡ false → Conflicts one other → ⊥
free one other e h = let found = conflict_again one other h in cc

-- Extents that do not conflict are tested to be apart.
pub taken : (one other : Extent) → (Conflicts one other → ⊥) → (b : Bool) → conflicts one other ≡ b → b ≡ false
taken one other h true e = absurd (h (conflict_found one other e))
taken one other h false e = refl

first_on : (extent : Extent) (disk : MinidiskStatement) (disks : List MinidiskStatement) (line : ℕ) (b : Bool)
    → conflicts extent disk.extent ≡ b → (first_conflict extent disks ≡ Some line → IsFirstConflict extent disks line)
    → option_map (λ (d : MinidiskStatement). d.line) (cond b (Some disk)
    (find (λ (d : MinidiskStatement). conflicts extent d.extent) disks)) ≡ Some line
    → IsFirstConflict extent (disk ∷ disks) line
first_on extent disk disks line true e hyp h =
    record {
      before = [];
      disk = disk;
      after = disks;
      split = refl;
      free = All-nil (λ (d : MinidiskStatement). Conflicts extent d.extent → ⊥);
      conflicts = conflict_found extent disk.extent e;
      reported = cc;
    }
first_on extent disk disks line false e hyp h =
    let r = hyp h in
    record {
      before = disk ∷ r.before;
      disk = r.disk;
      after = r.after;
      split = ap (λ (l : List MinidiskStatement). disk ∷ l) r.split;
      free = All-cons (λ (d : MinidiskStatement). Conflicts extent d.extent → ⊥) disk r.before
          (free extent disk.extent e) r.free;
      conflicts = r.conflicts;
      reported = r.reported;
    }

-- the line that is reported is that of the first
pub first_found : (extent : Extent) (disks : List MinidiskStatement) (line : ℕ)
    → first_conflict extent disks ≡ Some line → IsFirstConflict extent disks line
first_found extent [] line h = cc
first_found extent (disk ∷ disks) line h = first_on extent disk disks line (conflicts extent disk.extent) refl
    (first_found extent disks line) h

again_on : (extent : Extent) (before : List MinidiskStatement) (disk : MinidiskStatement)
    (after : List MinidiskStatement) → All (λ (d : MinidiskStatement). Conflicts extent d.extent → ⊥) before
    → Conflicts extent disk.extent
    → first_conflict extent (before ++ disk ∷ after) ≡ Some disk.line
again_on extent [] disk after h k = rw (conflict_again extent disk.extent k) refl
again_on extent (one ∷ before) disk after h k =
    let P : MinidiskStatement → Type 0 = λ d. Conflicts extent d.extent → ⊥ in
    rw (taken extent one.extent (All-head P one before h) (conflicts extent one.extent) refl)
    (again_on extent before disk after (All-tail P one before h) k)

-- the line of the first is reported
pub first_again : (extent : Extent) (disks : List MinidiskStatement) (line : ℕ) → IsFirstConflict extent disks line
    → first_conflict extent disks ≡ Some line
first_again extent disks line h = ap (first_conflict extent) h.split
    ∙ again_on extent h.before h.disk h.after h.free h.conflicts ∙ ap Some (sym h.reported)

none_on : (extent : Extent) (disk : MinidiskStatement) (disks : List MinidiskStatement) (b : Bool)
    → conflicts extent disk.extent ≡ b → (first_conflict extent disks ≡ None
    → All (λ (d : MinidiskStatement). Conflicts extent d.extent → ⊥) disks)
    → option_map (λ (d : MinidiskStatement). d.line) (cond b (Some disk)
    (find (λ (d : MinidiskStatement). conflicts extent d.extent) disks)) ≡ None
    → All (λ (d : MinidiskStatement). Conflicts extent d.extent → ⊥) (disk ∷ disks)
none_on extent disk disks true e hyp h = cc
none_on extent disk disks false e hyp h = All-cons (λ (d : MinidiskStatement). Conflicts extent d.extent → ⊥) disk disks
    (free extent disk.extent e) (hyp h)

-- An extent for which no conflict is found conflicts with no minidisk.
pub none_found : (extent : Extent) (disks : List MinidiskStatement) → first_conflict extent disks ≡ None
    → All (λ (d : MinidiskStatement). Conflicts extent d.extent → ⊥) disks
none_found extent [] h = All-nil (λ (d : MinidiskStatement). Conflicts extent d.extent → ⊥)
none_found extent (disk ∷ disks) h = none_on extent disk disks (conflicts extent disk.extent) refl
    (none_found extent disks) h

all_free_on : (extent : Extent) (disks : List MinidiskStatement) (o : Option ℕ) → first_conflict extent disks ≡ o
    → ((line : ℕ) → IsFirstConflict extent disks line → ⊥) → All (λ (d : MinidiskStatement). Conflicts extent d.extent
    → ⊥) disks
all_free_on extent disks None e h = none_found extent disks e
all_free_on extent disks (Some line) e h = absurd (h line (first_found extent disks line e))

-- where there is no first conflict there is none
pub all_free : (extent : Extent) (disks : List MinidiskStatement) → ((line : ℕ) → IsFirstConflict extent disks line → ⊥)
    → All (λ (d : MinidiskStatement). Conflicts extent d.extent → ⊥) disks
all_free extent disks h = all_free_on extent disks (first_conflict extent disks) refl h
