-- The first of a list of faults, where they are in the order in which they are reported.
use Rattle.std.proofs.Common.{◌≡◌, ℕ, ◌≤◌, ◌⊎◌, inl, inr, Bool, true, false, List, [], ◌∷◌, Option, Some, None, refl}
use Rattle.std.proofs.Common.{ap, subst, arith}
use Rattle.std.specs.Option.{option_map}
use Rattle.cp_directory.specs.Statements.{fault_if, first_fault}
use Rattle.cp_directory.specs.Grammar.{order}
use Rattle.cp_directory.specs.declared.faults.LineFault.{LineFault}
use Rattle.cp_directory.specs.declared.faults.LineFault.TheVariants.{Overlap}

-- the fault is among them
abbrev pub Tells : List (Option LineFault) → LineFault → Type 0
Tells [] fault = ⊥
Tells (o ∷ os) fault = (o ≡ Some fault) ⊎ Tells os fault

-- none of them is reported before this place of the order
abbrev pub AtLeast : ℕ → List (Option LineFault) → Type 0
AtLeast n faults = (fault : LineFault) → Tells faults fault → n ≤ order fault

-- none of them is reported before one that is earlier
abbrev pub Ascends : List (Option LineFault) → Type 0
Ascends [] = Unit {0}
Ascends (o ∷ os) = ((fault : LineFault) → o ≡ Some fault → AtLeast (order fault) os) × Ascends os

-- The first fault of a line is one that the line has.
pub first_told : (faults : List (Option LineFault)) (fault : LineFault) → first_fault faults ≡ Some fault
    → Tells faults fault
first_told [] fault h = cc
first_told (Some f ∷ fs) fault h = inl h
first_told (None ∷ fs) fault h = inr (first_told fs fault h)

-- A line in which no fault is found has none.
pub none_told : (faults : List (Option LineFault)) → first_fault faults ≡ None → (fault : LineFault)
    → Tells faults fault → ⊥
none_told [] h fault t = t
none_told (Some f ∷ fs) h fault t = cc
none_told (None ∷ fs) h fault t = elim t [ inl e ↦ cc | inr k ↦ none_told fs h fault k ]

-- A line that has no fault has no first fault.
pub nothing_told : (faults : List (Option LineFault)) → ((fault : LineFault) → Tells faults fault → ⊥)
    → first_fault faults ≡ None
nothing_told [] h = refl
nothing_told (Some f ∷ fs) h = absurd (h f (inl refl))
nothing_told (None ∷ fs) h = nothing_told fs (λ fault t. h fault (inr t))

least_on : (f : LineFault) (fs : List (Option LineFault)) (other : LineFault) → AtLeast (order f) fs
    → Tells (Some f ∷ fs) other → order f ≤ order other
least_on f fs other a t = elim t [
  | inl e ↦ let same : f ≡ other = cc in subst (λ (g : LineFault). order f ≤ order g) same (omega arith)
  | inr k ↦ a other k
]

-- the first comes before all others in the order
pub least : (faults : List (Option LineFault)) (fault other : LineFault) → Ascends faults
    → first_fault faults ≡ Some fault → Tells faults other → order fault ≤ order other
least [] fault other a h t = cc
least (Some f ∷ fs) fault other a h t = let same : f ≡ fault = cc in
    subst (λ (g : LineFault). order g ≤ order other) same (least_on f fs other (a.0 f refl) t)
least (None ∷ fs) fault other a h t = elim t [ inl e ↦ cc | inr k ↦ least fs fault other a.1 h k ]

-- A fault that is reported on a condition is that fault, and the condition holds.
pub told_if : (b : Bool) (f fault : LineFault) → fault_if b f ≡ Some fault → (b ≡ true) × (f ≡ fault)
told_if true f fault h = (refl, cc)
told_if false f fault h = cc

-- A fault is reported if its condition holds.
pub if_told : (b : Bool) (f : LineFault) → b ≡ true → fault_if b f ≡ Some f
if_told b f e = rw e refl

-- they are in their order, and none is reported before this place of it
pub record From (n : ℕ) (faults : List (Option LineFault)) : Type 0 where
  pub at_least : AtLeast n faults
  pub ascends : Ascends faults

-- No faults are in order from any number on.
pub from_nil : (n : ℕ) → From n []
from_nil n = record { at_least = λ fault t. absurd t; ascends = tt }

-- one fault more before those that are reported after it
from_one : (o : Option LineFault) (n m : ℕ) (faults : List (Option LineFault)) → n ≤ m
    → ((fault : LineFault) → o ≡ Some fault → m ≡ order fault) → From m faults → From n (o ∷ faults)
from_one o n m faults less place rest = record {
  at_least = λ fault t. elim t [
    | inl e ↦ omega (arith, place fault e)
    | inr t ↦ let later = rest.at_least fault t in
        omega arith
  ];
  ascends = (λ fault e. subst (λ k. AtLeast k faults) (place fault e) rest.at_least, rest.ascends);
}

-- A fault before later ones keeps the order.
pub from_if : (b : Bool) (f : LineFault) (n : ℕ) (faults : List (Option LineFault)) → n ≤ order f
    → From (order f) faults → From n (fault_if b f ∷ faults)
from_if b f n faults less rest = from_one (fault_if b f) n (order f) faults less
    (λ fault e. ap order (told_if b f fault e).1) rest

-- the fault of an overlap is there where a line is
pub told_overlap : (o : Option ℕ) (fault : LineFault) → option_map Overlap o ≡ Some fault → (line : ℕ) × (o ≡ Some line)
    × (Overlap line ≡ fault)
told_overlap None fault h = cc
told_overlap (Some line) fault h = (line, refl, cc)

-- An overlap before later faults keeps the order.
pub from_overlap : (o : Option ℕ) (n : ℕ) (faults : List (Option LineFault)) → n ≤ 6 → From 6 faults
    → From n (option_map Overlap o ∷ faults)
from_overlap o n faults less rest = from_one (option_map Overlap o) n 6 faults less
    (λ fault e. let k = told_overlap o fault e in ap order k.2) rest
