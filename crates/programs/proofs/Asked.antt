-- What words ask for, as strings and as their bytes.
use Rattle.std.proofs.Common.{◌≡◌, ◌∙◌, ◌⊎◌, ◌||◌, Bool, true, false, not, ℕ, List, [], ◌∷◌, Option, cond, map}
use Rattle.std.proofs.Common.{codes, string_bytes}
use Rattle.std.proofs.Common.{Global, String, inl, inr, refl, ap, sym}
use Rattle.std.specs.Prelude.{take_while}
use Rattle.std.specs.List.{list_any}
use Rattle.std.specs.Str.{bytes_eq}
use Rattle.std.proofs.lemmas.List.Sums.{take_while-cons}
use Rattle.programs.specs.Arguments.{IsUnbegun, asks_to_follow}
use Rattle.program_host.specs.Ends.{IsUseFailure, use_complaints}
use Rattle.program_host.specs.Deeds.{Adds, Deed}
use Rattle.programs.specs.declared.faults.Failure.{Failure}
use Rattle.programs.specs.declared.faults.Failure.TheVariants as failures
use Rattle.program_host.specs.declared.words.UsageError.{UsageError}
use Rattle.program_host.specs.declared.words.UsageError.TheVariants as uses
use Rattle.program_host.proofs.Deeds.{adds_more}

front_by : {X Y : Type 0} (b : Bool) (p : Y → Bool) (f : X → Y) (x : X) (xs : List X) (ys : List Y)
    → list_any (λ x. p (f x)) xs ≡ list_any p ys
    → list_any (λ x. p (f x)) (cond b (x ∷ xs) []) ≡ list_any p (cond b (f x ∷ ys) [])
front_by true p f x xs ys h = ap (λ (b : Bool). p (f x) || b) h
front_by false p f x xs ys h = refl

front_any : {X Y : Type 0} (f : X → Y) (p q : Y → Bool) (xs : List X)
    → list_any (λ x. p (f x)) (take_while (λ x. q (f x)) xs) ≡ list_any p (take_while q (map f xs))
front_any f p q [] = refl
front_any {X} {Y} f p q (x ∷ xs) =
    ap (λ (l : List X). list_any (λ x. p (f x)) l) (take_while-cons (λ x. q (f x)) x xs)
    ∙ (front_by (q (f x)) p f x (take_while (λ x. q (f x)) xs) (take_while q (map f xs)) (front_any f p q xs)
    ∙ sym (ap (λ (l : List Y). list_any p l) (take_while-cons q (f x) (map f xs))))

-- Strings ask to follow as their bytes do.
pub asked : (words : List (String Global))
    → list_any (λ word. bytes_eq (string_bytes {Z = Global} word) (codes "--follow"))
    (take_while (λ word. not (bytes_eq (string_bytes {Z = Global} word) (codes "--"))) words)
    ≡ asks_to_follow (map (string_bytes {Z = Global}) words)
asked words = front_any (string_bytes {Z = Global}) (λ text. bytes_eq text (codes "--follow"))
    (λ text. not (bytes_eq text (codes "--"))) words

-- An error that is lack of memory if the words are right begins nothing.
pub unbegun : {Misuse : Type 0} (streams : List Deed) (old new : Option (List Deed)) (error : UsageError)
    (note : List ℕ) (failure : Failure)
    → IsUseFailure (λ f. f ≡ failures.Memory) (λ f. f ≡ failures.Usage) error failure
    → ((error ≡ uses.Memory → ⊥) → Misuse) → Adds old new (use_complaints error note)
    → IsUnbegun streams Misuse old new failure
unbegun streams old new uses.Memory note failure is h told = inl (is, (0, told))
unbegun streams old new (uses.Usage text) note failure is h told =
    inr (is, h (λ e. cc e), record { text = string_bytes {Z = Global} text; note = note; told = told })

-- No memory for the first of the streams begins nothing.
pub no_first : {Misuse : Type 0} (stream : Deed) (streams : List Deed) (old new : Option (List Deed))
    → Adds old new (stream ∷ []) → IsUnbegun (stream ∷ streams) Misuse old new failures.Memory
no_first stream streams old new asked = inl (refl, (1, asked))

-- nor for the second
pub no_second : {Misuse : Type 0} (first second : Deed) (old between new : Option (List Deed))
    → Adds old between (first ∷ []) → Adds between new (second ∷ [])
    → IsUnbegun (first ∷ second ∷ []) Misuse old new failures.Memory
no_second first second old between new one other =
    inl (refl, (2, adds_more old between new (first ∷ []) (second ∷ []) one other))

-- Words that were not read begin nothing: memory was refused, or this holds, one of them is no text.
pub unread : {NoText : Type 0} (old new : Option (List Deed)) (error : UsageError) (note : List ℕ) (failure : Failure)
    → IsUseFailure (λ f. f ≡ failures.Memory) (λ f. f ≡ failures.Usage) error failure
    → (error ≡ uses.Memory) ⊎ NoText → Adds old new (use_complaints error note)
    → IsUnbegun [] NoText old new failure
unread old new error note failure is h told =
    unbegun [] old new error note failure is
    (λ other. elim h [ inl memory ↦ absurd (other memory) | inr none ↦ none ]) told
