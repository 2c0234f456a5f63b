-- The words of a program, as those of a simple command of `clap`.
use Rattle.std.specs.Prelude.{◌≡◌, ℕ, Bool, true, false, List, [], codes, Option, Some, None}
use Rattle.clap.specs.Words.{App, Row, fault_of, matches_of, takes}

-- a flag is given where its text is `true`, and not where it is `false` or there is none
pub record IsFlag (text : Option (List ℕ)) (given : Bool) : Type 0 where
  pub yes : text ≡ Some (codes "true") → given ≡ true
  pub no : text ≡ Some (codes "false") → given ≡ false
  pub none : text ≡ None → given ≡ false

-- the texts of an argument that need not be given
abbrev pub texts_of : Option (List (List ℕ)) → List (List ℕ)
texts_of None = []
texts_of (Some texts) = texts

-- what words give for the arguments of a command, in their order
unfoldable pub rows_named : App → List (List ℕ) → List Row
rows_named command words = matches_of command words

-- the words are those of the command
unfoldable pub is_taken : App → List (List ℕ) → Bool
is_taken command words = takes command words

-- nothing is wrong with the words: none is unknown or missing, and none asks for help
unfoldable pub HasNoFault : App → List (List ℕ) → Type 0
HasNoFault command words = fault_of command words ≡ []

-- words with which nothing is wrong name these options by this command
abbrev pub IsNamedBy : {N : Type 0} → (List Row → N → Type 0) → App → List (List ℕ) → N → Type 0
IsNamedBy Named command words options =
    Named (rows_named command words) options × HasNoFault command words
