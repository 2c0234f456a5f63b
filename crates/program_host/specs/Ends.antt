-- How a program ends: what it prints of a failure, and its exit status.
use Rattle.std.specs.Prelude.{◌≡◌, ◌⊎◌, ℕ, List, [], ◌∷◌, ◌++◌, codes, string_bytes, Option, Some}
use Rattle.std.specs.Prelude.{None, Result, Ok, Err, OnOk, IfErr}
use Rattle.program_host.specs.Deeds.{Adds, Complains, Deed}
use Rattle.program_host.specs.declared.words.UsageError.{UsageError}
use Rattle.program_host.specs.declared.words.UsageError.TheVariants as uses

-- what is printed of the words: what is wrong with them, and this note
abbrev pub use_complaints : UsageError → List ℕ → List Deed
use_complaints uses.Memory note = []
use_complaints (uses.Usage text) note = Complains (string_bytes text) ∷ Complains note ∷ []

-- this text says what is wrong with the words, unless memory was refused
abbrev pub TellsUse : List ℕ → UsageError → Type 0
TellsUse text uses.Memory = Unit {0}
TellsUse text (uses.Usage told) = string_bytes told ≡ text

-- what is wrong with the words was printed, and a note
pub record IsToldUse (deeds_old deeds_new : Option (List Deed)) : Type 0 where
  pub text : List ℕ
  pub note : List ℕ
  pub told : Adds deeds_old deeds_new (Complains text ∷ Complains note ∷ [])

-- words that are wrong are a wrong use, and else memory was refused
abbrev pub IsUseFailure : {F : Type 0} → (F → Type 0) → (F → Type 0) → UsageError → F → Type 0
IsUseFailure is_memory is_usage uses.Memory failure = is_memory failure
IsUseFailure is_memory is_usage (uses.Usage text) failure = is_usage failure

-- the path of an image that is not saved is printed after the line of the failure
abbrev pub path_complaints : Option (List ℕ) → List Deed
path_complaints None = []
path_complaints (Some path) = Complains (codes "not saved: ") ∷ Complains (path ++ 10 ∷ []) ∷ []

-- how a failure is told that is no wrong use: its line, if there is memory for it, else that there
-- is none, and a path
abbrev pub IsLineTold : {F S E : Type 0} → (F → Type 0) → (S → List ℕ) → Option (List ℕ)
    → Result S E → F → F → Option (List Deed) → Option (List Deed) → Type 0
IsLineTold is_memory bytes path (Ok line) failure reported old new = (reported ≡ failure)
    × Adds old new (Complains (bytes line ++ 10 ∷ []) ∷ path_complaints path)
IsLineTold is_memory bytes path (Err refused) failure reported old new = is_memory reported
    × Adds old new (Complains (codes "fault: memory Memory" ++ 10 ∷ []) ∷ path_complaints path)

-- how a failure is told: a wrong use was told before; of another the line of what is reported is
-- printed, which is the failure itself, or that there is no memory to say it, and a path
abbrev pub IsFailureTold : {F : Type 0} → (F → List ℕ) → (F → Option (List ℕ)) → (F → Type 0)
    → (F → Type 0) → F → F → Option (List Deed) → Option (List Deed) → Type 0
IsFailureTold text unsaved is_memory is_usage failure reported old new =
    (is_usage failure × (reported ≡ failure) × Adds old new [])
    ⊎ ((is_usage failure → ⊥) × ((reported ≡ failure) ⊎ is_memory reported)
    × Adds old new (Complains (text reported ++ 10 ∷ []) ∷ path_complaints (unsaved failure)))

-- how an end is told: one without a failure is not
abbrev pub IsToldAs : {F : Type 0} → (F → List ℕ) → (F → Option (List ℕ)) → (F → Type 0)
    → (F → Type 0) → Result (Unit {0}) F → Result (Unit {0}) F → Option (List Deed)
    → Option (List Deed) → Type 0
IsToldAs text unsaved is_memory is_usage (Ok done) (Ok reported) old new = Adds old new []
IsToldAs text unsaved is_memory is_usage (Ok done) (Err reported) old new = ⊥
IsToldAs text unsaved is_memory is_usage (Err failure) (Ok reported) old new = ⊥
IsToldAs text unsaved is_memory is_usage (Err failure) (Err reported) old new =
    IsFailureTold text unsaved is_memory is_usage failure reported old new

-- a program that reaches its end has status 0, and else that of its failure
abbrev pub outcome_of : {F : Type 0} → (F → ℕ) → Result (Unit {0}) F → ℕ
outcome_of status (Ok done) = 0
outcome_of status (Err failure) = status failure

-- a program did what the words of its command line ask for, or failed with or without them, and how
-- it ended was told
pub record IsEnd {F : Type 0} (text : F → List ℕ) (unsaved : F → Option (List ℕ))
    (is_memory is_usage : F → Type 0) (Typed : List (List ℕ) → Type 0)
    (Unbegun : Option (List Deed) → Option (List Deed) → F → Type 0)
    (Whole : List (List ℕ) → Option (List Deed) → Option (List Deed) → Type 0)
    (Failed : List (List ℕ) → Option (List Deed) → Option (List Deed) → F → Type 0)
    (old new : Option (List Deed)) (reported : Result (Unit {0}) F) : Type 0 where
  pub ended : Result (Unit {0}) F
  pub between : Option (List Deed)
  pub whole : OnOk ended ((words : List (List ℕ)) × Typed words × Whole words old between)
  pub failed : IfErr ended (λ failure. Unbegun old between failure
      ⊎ ((words : List (List ℕ)) × Typed words × Failed words old between failure))
  pub told : IsToldAs text unsaved is_memory is_usage ended reported between new
