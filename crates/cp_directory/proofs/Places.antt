-- A statement after those before it: nothing is wrong with it, or its first fault is.
use Rattle.std.proofs.Common.{◌≡◌, ℕ, ◌+◌, ◌<◌, ◌≤◌, ◌⊎◌, inl, inr, ◌&&◌, ◌||◌, Bool, true, false, not, eqb, leb, List}
use Rattle.std.proofs.Common.{[], ◌∷◌, length, Option, Some, None, Ok, Err, refl, ap, sym, ◌∙◌, subst, arith}
use Rattle.std.specs.List.{list_any}
use Rattle.std.specs.Option.{option_map, is_some}
use Rattle.std.proofs.lemmas.Bool.{leb-true, leb-false}
use Rattle.std.proofs.lemmas.Bool.Decides.{nat_tests}
use Rattle.cp_directory.specs.Sizes.{is_size}
use Rattle.cp_directory.specs.Devices.{place_of}
use Rattle.cp_directory.specs.Extents.{is_extent}
use Rattle.cp_directory.specs.Users.{DirectoryUser, addresses_of, first_conflict, has_device, is_full, last_user}
use Rattle.cp_directory.specs.Users.{minidisks_of}
use Rattle.cp_directory.specs.Statements.{Stated, User, Device, Disk, added, fault_if, faults_of, first_fault, has_name}
use Rattle.cp_directory.specs.Statements.{has_no_room, is_nobodys, placed, unless_fault}
use Rattle.cp_directory.specs.Grammar.{Breaks, HasFault, IsUnknown, Says, SaysWrong, order}
use Rattle.cp_directory.specs.declared.faults.LineFault.{LineFault}
use Rattle.cp_directory.specs.declared.faults.LineFault.TheVariants.{UnknownStatement, Syntax, DuplicateUser}
use Rattle.cp_directory.specs.declared.faults.LineFault.TheVariants.{DuplicateDevice, BadStorage, BadExtent, Overlap}
use Rattle.cp_directory.specs.declared.faults.LineFault.TheVariants.{TooMany}
use Rattle.cp_directory.proofs.Conflicts.{first_again, first_found}
use Rattle.cp_directory.proofs.Orders.{From, Tells, first_told, from_if, from_nil, from_overlap, if_told, least}
use Rattle.cp_directory.proofs.Orders.{none_told, nothing_told, told_if, told_overlap}
use Rattle.cp_directory.proofs.Spellings.{alike, again, is_verb, no_verb}

-- a test that cannot pass fails
pub never : (b : Bool) → (b ≡ true → ⊥) → b ≡ false
never true h = absurd (h refl)
never false h = refl

-- a test that cannot fail passes
pub always : (b : Bool) → (b ≡ false → ⊥) → b ≡ true
always true h = refl
always false h = absurd (h refl)

untrue : (b : Bool) → not b ≡ true → b ≡ false
untrue true h = cc
untrue false h = refl

-- ---- what the tests say

many : (most n : ℕ) → leb most n ≡ true → most ≤ n
many most n h = leb-true most n h

full : (most n : ℕ) → most ≤ n → leb most n ≡ true
full most n h = grind (arith, nat_tests)

nobody : (users : List DirectoryUser) → is_nobodys users ≡ true → users ≡ []
nobody [] h = refl
nobody (user ∷ users) h = let some : eqb (length (user ∷ users)) 0 ≡ false = grind (arith, nat_tests) in cc

nobodys : (users : List DirectoryUser) → users ≡ [] → is_nobodys users ≡ true
nobodys users h = rw h refl

first_of_or : (b : Bool) → (b || false) ≡ true → b ≡ true
first_of_or true h = refl
first_of_or false h = h

or_true : (b : Bool) → (b || true) ≡ true
or_true true = refl
or_true false = refl

and_false : (b : Bool) → not (b && false) ≡ true
and_false true = refl
and_false false = refl

either : (n : ℕ) (o : Option ℕ) → (leb 32 n || is_some o) ≡ true → (32 ≤ n) ⊎ (is_some o ≡ true)
either n (Some place) h = inr refl
either n None h = inl (many 32 n (first_of_or (leb 32 n) h))

no_room : (n : ℕ) (o : Option ℕ) → (32 ≤ n) ⊎ (is_some o ≡ true) → (leb 32 n || is_some o) ≡ true
no_room n o h = elim h [ inl k ↦ rw (full 32 n k) refl | inr k ↦ rw k (or_true (leb 32 n)) ]

outside : (start count : ℕ) (a : Bool) → leb 1 count ≡ a → (b : Bool) → leb (start + count) 808 ≡ b
    → not (a && b) ≡ true → (count ≡ 0) ⊎ (808 < start + count)
outside start count false e b f h = inl (let none : count < 1 = leb-false 1 count e in omega arith)
outside start count true e false f h = inr (leb-false (start + count) 808 f)
outside start count true e true f h = cc

not_extent : (start count : ℕ) → not (leb 1 count && leb (start + count) 808) ≡ true → (count ≡ 0)
    ⊎ (808 < start + count)
not_extent start count h = outside start count (leb 1 count) refl (leb (start + count) 808) refl h

bad_extent : (start count : ℕ) → (count ≡ 0) ⊎ (808 < start + count)
    → not (leb 1 count && leb (start + count) 808) ≡ true
bad_extent start count h = elim h [
  | inl none ↦ let test : leb 1 count ≡ false = grind (arith, nat_tests) in rw test refl
  | inr past ↦ let test : leb (start + count) 808 ≡ false = grind (arith, nat_tests) in
      rw test (and_false (leb 1 count))
]

-- ---- faults are in their order

in_order : (users : List DirectoryUser) (s : Stated) → From 0 (faults_of users s)
in_order users (User name k) =
    from_if _ DuplicateUser 0 _ (omega arith)
    (from_if _ BadStorage 2 _ (omega arith)
    (from_if _ TooMany 4 _ (omega arith) (from_nil 7)))
in_order users (Device kind address) =
    from_if _ Syntax 0 _ (omega arith)
    (from_if _ DuplicateDevice 1 _ (omega arith)
    (from_if _ TooMany 3 _ (omega arith) (from_nil 7)))
in_order users (Disk address extent) =
    from_if _ Syntax 0 _ (omega arith)
    (from_if _ DuplicateDevice 1 _ (omega arith)
    (from_if _ BadExtent 3 _ (omega arith)
    (from_overlap (first_conflict extent (minidisks_of users)) 5 _ (omega arith)
    (from_if _ TooMany 6 _ (omega arith) (from_nil 7)))))

-- ---- they are what is wrong

-- a fault that is there by its test
by_test : (users : List DirectoryUser) (s : Stated) (b : Bool) (f fault : LineFault) → (b ≡ true → Breaks users s f)
    → fault_if b f ≡ Some fault → Breaks users s fault
by_test users s b f fault says h = let t = told_if b f fault h in subst (Breaks users s) t.1 (says t.0)

breaks : (users : List DirectoryUser) (s : Stated) (fault : LineFault) → Tells (faults_of users s) fault
    → Breaks users s fault
breaks users (User name k) fault t = elim t [
  | inl e ↦ by_test users (User name k) (list_any (has_name name) users) DuplicateUser fault (λ p. p) e
  | inr t ↦ elim t [
    | inl e ↦ by_test users (User name k) (not (is_size k)) BadStorage fault (untrue (is_size k)) e
    | inr t ↦ elim t [
      | inl e ↦ by_test users (User name k) (leb 64 (length users)) TooMany fault (many 64 (length users)) e
      | inr t ↦ absurd t
    ]
  ]
]
breaks users (Device kind address) fault t = elim t [
  | inl e ↦ by_test users (Device kind address) (is_nobodys users) Syntax fault (nobody users) e
  | inr t ↦ elim t [
    | inl e ↦ by_test users (Device kind address) (has_device address (last_user users)) DuplicateDevice fault
        (λ p. p) e
    | inr t ↦ elim t [
      | inl e ↦ by_test users (Device kind address) (has_no_room kind (last_user users)) TooMany fault
          (either (length (addresses_of (last_user users))) (place_of (last_user users).devices kind)) e
      | inr t ↦ absurd t
    ]
  ]
]
breaks users (Disk address extent) fault t = elim t [
  | inl e ↦ by_test users (Disk address extent) (is_nobodys users) Syntax fault (nobody users) e
  | inr t ↦ elim t [
    | inl e ↦ by_test users (Disk address extent) (has_device address (last_user users)) DuplicateDevice fault
        (λ p. p) e
    | inr t ↦ elim t [
      | inl e ↦ by_test users (Disk address extent) (not (is_extent extent)) BadExtent fault
          (not_extent extent.start extent.count) e
      | inr t ↦ elim t [
        | inl e ↦
            let o = told_overlap (first_conflict extent (minidisks_of users)) fault e in
            subst (Breaks users (Disk address extent)) o.2 (first_found extent (minidisks_of users) o.0 o.1)
        | inr t ↦ elim t [
          | inl e ↦ by_test users (Disk address extent) (is_full (last_user users)) TooMany fault
              (many 32 (length (addresses_of (last_user users)))) e
          | inr t ↦ absurd t
        ]
      ]
    ]
  ]
]

overlap_told : (o : Option ℕ) (line : ℕ) → o ≡ Some line → option_map Overlap o ≡ Some (Overlap line)
overlap_told o line e = rw e refl

tells : (users : List DirectoryUser) (s : Stated) (fault : LineFault) → Breaks users s fault
    → Tells (faults_of users s) fault
tells users (User name k) DuplicateUser h = inl (if_told _ DuplicateUser h)
tells users (User name k) BadStorage h = inr (inl (if_told _ BadStorage (rw h refl)))
tells users (User name k) TooMany h = inr (inr (inl (if_told _ TooMany (full 64 (length users) h))))
tells users (User name k) _ h = absurd h
tells users (Device kind address) Syntax h = inl (if_told _ Syntax (nobodys users h))
tells users (Device kind address) DuplicateDevice h = inr (inl (if_told _ DuplicateDevice h))
tells users (Device kind address) TooMany h = inr (inr (inl (if_told _ TooMany
    (no_room (length (addresses_of (last_user users))) (place_of (last_user users).devices kind) h))))
tells users (Device kind address) _ h = absurd h
tells users (Disk address extent) Syntax h = inl (if_told _ Syntax (nobodys users h))
tells users (Disk address extent) DuplicateDevice h = inr (inl (if_told _ DuplicateDevice h))
tells users (Disk address extent) BadExtent h = inr (inr (inl
    (if_told _ BadExtent (bad_extent extent.start extent.count h))))
tells users (Disk address extent) (Overlap line) h = inr (inr
    (inr (inl (overlap_told _ line (first_again extent (minidisks_of users) line h)))))
tells users (Disk address extent) TooMany h = inr (inr (inr (inr
    (inl (if_told _ TooMany (full 32 (length (addresses_of (last_user users))) h))))))
tells users (Disk address extent) _ h = absurd h

-- ---- statements that are placed

placed_on : (faults : List (Option LineFault)) (o : Option LineFault) (x next : List DirectoryUser)
    → first_fault faults ≡ o → unless_fault o x ≡ Ok next → (first_fault faults ≡ None) × (next ≡ x)
placed_on faults None x next e h = let same : x ≡ next = cc in (e, sym same)
placed_on faults (Some fault) x next e h = cc

-- with what was placed nothing is wrong
pub right_found : (line : ℕ) (users : List DirectoryUser) (s : Stated) (next : List DirectoryUser)
    → placed line users s ≡ Ok next → ((fault : LineFault) → Breaks users s fault → ⊥) × (next ≡ added line users s)
right_found line users s next h =
    let p = placed_on (faults_of users s) (first_fault (faults_of users s)) (added line users s) next refl h in
    (λ fault b. none_told (faults_of users s) p.0 fault (tells users s fault b), p.1)

unless_none : (o : Option LineFault) (x : List DirectoryUser) → o ≡ None → unless_fault o x ≡ Ok x
unless_none o x e = rw e refl

-- what nothing is wrong with is placed
pub right_again : (line : ℕ) (users : List DirectoryUser) (s : Stated)
    → ((fault : LineFault) → Breaks users s fault → ⊥) → placed line users s ≡ Ok (added line users s)
right_again line users s right = unless_none (first_fault (faults_of users s)) (added line users s)
    (nothing_told (faults_of users s) (λ fault t. right fault (breaks users s fault t)))

-- a fault of words, and no fault of theirs is reported before it
pub record Judged (users : List DirectoryUser) (words : List (List ℕ)) (fault : LineFault) : Type 0 where
  pub has : HasFault users words fault
  pub first : (other : LineFault) → HasFault users words other → order fault ≤ order other

-- what is wrong with what the words say
only : (users : List DirectoryUser) (words : List (List ℕ)) (s : Stated) (fault : LineFault) → Says words s
    → SaysWrong users words fault → Breaks users s fault
only users words s fault says w = subst (λ (t : Stated). Breaks users t fault)
    (alike words w.statement s w.says says) w.breaks

known : (words : List (List ℕ)) (s : Stated) → Says words s → IsUnknown words → ⊥
known words s says h =
    let a = again words s says in
    let whole : h.verb ∷ h.operands ≡ a.verb ∷ a.operands = sym h.begins ∙ a.begins in
    let same : h.verb ≡ a.verb = cc in
    let none : is_verb a.verb ≡ false = subst (λ (v : List ℕ). is_verb v ≡ false) same h.other in
    let twice : Ok s ≡ Err UnknownStatement = sym a.stated ∙ no_verb a.verb a.operands none in
    cc

no_unknown : (users : List DirectoryUser) (s : Stated) → Breaks users s UnknownStatement → ⊥
no_unknown users (User name k) h = h
no_unknown users (Device kind address) h = h
no_unknown users (Disk address extent) h = h

-- a statement with which this is wrong is a fault of its words
wrong : (users : List DirectoryUser) (words : List (List ℕ)) (fault : LineFault) → SaysWrong users words fault
    → HasFault users words fault
wrong users words UnknownStatement w = absurd (no_unknown users w.statement w.breaks)
wrong users words Syntax w = inr w
wrong users words DuplicateUser w = w
wrong users words DuplicateDevice w = w
wrong users words BadStorage w = w
wrong users words BadExtent w = w
wrong users words (Overlap line) w = w
wrong users words TooMany w = w

-- words that say a statement have no fault but its own
pub own : (users : List DirectoryUser) (words : List (List ℕ)) (s : Stated) (fault : LineFault) → Says words s
    → HasFault users words fault → Breaks users s fault
own users words s UnknownStatement says h = absurd (known words s says h)
own users words s Syntax says h = elim h [ inl m ↦ absurd (m.silent s says) | inr w ↦ only users words s Syntax says w ]
own users words s DuplicateUser says h = only users words s DuplicateUser says h
own users words s DuplicateDevice says h = only users words s DuplicateDevice says h
own users words s BadStorage says h = only users words s BadStorage says h
own users words s BadExtent says h = only users words s BadExtent says h
own users words s (Overlap line) says h = only users words s (Overlap line) says h
own users words s TooMany says h = only users words s TooMany says h

wrong_on : (o : Option LineFault) (x : List DirectoryUser) (fault : LineFault) → unless_fault o x ≡ Err fault
    → o ≡ Some fault
wrong_on None x fault h = cc
wrong_on (Some f) x fault h = cc

-- the fault for which a statement is not placed is its first
pub wrong_found : (line : ℕ) (users : List DirectoryUser) (words : List (List ℕ)) (s : Stated) (fault : LineFault)
    → Says words s → placed line users s ≡ Err fault → Judged users words fault
wrong_found line users words s fault says h =
    let reported = wrong_on (first_fault (faults_of users s)) (added line users s) fault h in
    record {
      has = wrong users words fault (record {
        statement = s;
        says = says;
        breaks = breaks users s fault (first_told (faults_of users s) fault reported);
      });
      first = λ other k. least (faults_of users s) fault other (in_order users s).ascends reported
          (tells users s other (own users words s other says k));
    }

-- ---- a line has one first fault

-- faults at one place of the order are one, or both are of an overlap
pub data AtOnePlace (fault other : LineFault) : Type 0 where
  Same : fault ≡ other → AtOnePlace fault other
  Overlaps : (line first : ℕ) → fault ≡ Overlap line → other ≡ Overlap first → AtOnePlace fault other

at_one_place : (fault other : LineFault) → order fault ≡ order other → AtOnePlace fault other
at_one_place UnknownStatement UnknownStatement h = Same refl
at_one_place UnknownStatement _ h = absurd (omega arith)
at_one_place Syntax Syntax h = Same refl
at_one_place Syntax _ h = absurd (omega arith)
at_one_place DuplicateUser DuplicateUser h = Same refl
at_one_place DuplicateUser _ h = absurd (omega arith)
at_one_place DuplicateDevice DuplicateDevice h = Same refl
at_one_place DuplicateDevice _ h = absurd (omega arith)
at_one_place BadStorage BadStorage h = Same refl
at_one_place BadStorage _ h = absurd (omega arith)
at_one_place BadExtent BadExtent h = Same refl
at_one_place BadExtent _ h = absurd (omega arith)
at_one_place (Overlap line) (Overlap first) h = Overlaps line first refl refl
at_one_place (Overlap line) _ h = absurd (omega arith)
at_one_place TooMany TooMany h = Same refl
at_one_place TooMany _ h = absurd (omega arith)

-- a statement overlaps the disk of one line first
one_overlap : (users : List DirectoryUser) (s : Stated) (line first : ℕ) → Breaks users s (Overlap line)
    → Breaks users s (Overlap first) → line ≡ first
one_overlap users (User name k) line first h k' = absurd h
one_overlap users (Device kind address) line first h k' = absurd h
one_overlap users (Disk address extent) line first h k' =
    let twice : Some line ≡ Some first = sym (first_again extent (minidisks_of users) line h)
    ∙ first_again extent (minidisks_of users) first k' in
    cc

one_fault_on : (users : List DirectoryUser) (words : List (List ℕ)) (fault other : LineFault)
    → HasFault users words fault → HasFault users words other → AtOnePlace fault other → fault ≡ other
one_fault_on users words fault other h k (Same e) = e
one_fault_on users words fault other h k (Overlaps line first e f) =
    let w : SaysWrong users words (Overlap line) = subst (HasFault users words) e h in
    let v : SaysWrong users words (Overlap first) = subst (HasFault users words) f k in
    let same = one_overlap users w.statement line first w.breaks
    (only users words w.statement (Overlap first) w.says v) in
    e ∙ ap Overlap same ∙ sym f

-- words have one fault at each place of the order
pub one_fault : (users : List DirectoryUser) (words : List (List ℕ)) (fault other : LineFault)
    → HasFault users words fault → HasFault users words other → order fault ≡ order other → fault ≡ other
one_fault users words fault other h k e = one_fault_on users words fault other h k (at_one_place fault other e)

nothing_begins : (verb : List ℕ) (operands : List (List ℕ)) → [] ≡ verb ∷ operands → ⊥
nothing_begins verb operands h = cc

says_nothing : (s : Stated) → Says [] s → ⊥
says_nothing s says = let a = again [] s says in nothing_begins a.verb a.operands a.begins

-- a line without words has none
pub no_fault : (users : List DirectoryUser) (fault : LineFault) → HasFault users [] fault → ⊥
no_fault users UnknownStatement h = nothing_begins h.verb h.operands h.begins
no_fault users Syntax h = elim h [
  | inl m ↦ nothing_begins m.verb m.operands m.begins
  | inr w ↦ says_nothing w.statement
      w.says
]
no_fault users DuplicateUser w = says_nothing w.statement w.says
no_fault users DuplicateDevice w = says_nothing w.statement w.says
no_fault users BadStorage w = says_nothing w.statement w.says
no_fault users BadExtent w = says_nothing w.statement w.says
no_fault users (Overlap line) w = says_nothing w.statement w.says
no_fault users TooMany w = says_nothing w.statement w.says
