-- What an input asks for: parts of a script, states, those of users, what users hold, the decks of
-- their readers, and the end.
use Rattle.std.specs.Prelude.{◌≡◌, ◌<◌, ◌≤◌, ℕ, List, [], ◌∷◌, ◌++◌, ◌⊎◌, codes, length}
use Rattle.std.specs.Prelude.{Option, Some, None}
use Rattle.std.specs.Prelude.{Result, Ok, Err}
use Rattle.std.specs.Io.KnownBytes.{Consumes, IsAtEnd}
use Rattle.s370_num.specs.Host.{IsCounted}
use Rattle.s370_num.specs.declared.host.HostFault.{HostFault}
use Rattle.s370_num.specs.declared.host.HostFault.TheVariants as hosts
use Rattle.text_words.specs.Numbers.{decimal_of}
use Rattle.programs.specs.declared.requests.NextRequest.{NextRequest}
use Rattle.programs.specs.declared.requests.NextRequest.TheVariants as nexts
use Rattle.programs.specs.declared.requests.FollowRequest.{FollowRequest}
use Rattle.programs.specs.declared.requests.FollowRequest.TheVariants as requests

-- the most decimal digits of a size
abbrev pub most_digits : ℕ
most_digits = 9

-- bytes after the line with their number
pub record IsFramed (read bytes : List ℕ) : Type 0 where
  pub digits : List ℕ
  pub size : decimal_of most_digits digits ≡ Some (length bytes)
  pub line : read ≡ digits ++ 10 ∷ bytes

-- a word on a line of its own
abbrev pub word_line : List ℕ → List ℕ
word_line word = word ++ 10 ∷ []

-- the line that asks for the end
abbrev pub end_line : List ℕ
end_line = word_line (codes "END")

-- a line that asks for the state of a user, with his number after the word
abbrev pub IsViewLine : List ℕ → ℕ → Type 0
IsViewLine line user = (digits : List ℕ) × (decimal_of 2 digits ≡ Some user)
    × (line ≡ codes "VIEW " ++ digits)

-- how a request is read: a part of the script with its size before it, the word that asks for the
-- state, for what users hold or for the decks of their readers, the line that asks for the state of
-- a user, or the word that asks to seek or gives a state, and then a text or that state with its
-- size
abbrev pub IsAsked : List ℕ → FollowRequest → Type 0
IsAsked read (requests.Part part) = IsFramed read part.items
IsAsked read requests.Save = read ≡ word_line (codes "SAVE")
IsAsked read requests.Holds = read ≡ word_line (codes "HOLDS")
IsAsked read requests.Files = read ≡ word_line (codes "FILES")
IsAsked read (requests.View user) = (line : List ℕ) × IsViewLine line user × (read ≡ word_line line)
IsAsked read (requests.Seek text) = (framed : List ℕ) × IsFramed framed text.items
    × (read ≡ word_line (codes "SEEK") ++ framed)
IsAsked read (requests.State state) = (framed : List ℕ) × IsFramed framed state.items
    × (read ≡ word_line (codes "STATE") ++ framed)

-- the next byte, or none at the end of the input
abbrev pub GivesByte : Option ℕ → Option (List ℕ) → Option (List ℕ) → Type 0
GivesByte (Some byte) old new = Consumes old new (byte ∷ [])
GivesByte None old new = Consumes old new [] × IsAtEnd new

-- the next line, or none at the end of the input
abbrev pub GivesLine : Option (List ℕ) → Option (List ℕ) → Option (List ℕ) → Type 0
GivesLine (Some line) old new = Consumes old new (line ++ 10 ∷ [])
GivesLine None old new = Consumes old new [] × IsAtEnd new

-- the next bytes, after the line with their number
abbrev pub GivesSized : List ℕ → Option (List ℕ) → Option (List ℕ) → Type 0
GivesSized bytes old new = (read : List ℕ) × IsFramed read bytes × Consumes old new read

-- what the input has next
abbrev pub GivesNext : NextRequest → Option (List ℕ) → Option (List ℕ) → Type 0
GivesNext (nexts.Asked request) old new = (read : List ℕ) × IsAsked read request
    × Consumes old new read
GivesNext nexts.End old new = Consumes old new end_line
GivesNext nexts.Nothing old new = Consumes old new [] × IsAtEnd new

-- ---- an input that has no requests

-- no byte of these is an LF
abbrev pub HasNoEnd : List ℕ → Type 0
HasNoEnd [] = Unit {0}
HasNoEnd (c ∷ cs) = (c ≡ 10 → ⊥) × HasNoEnd cs

-- these bytes are no request, and do not ask for the end
pub record IsNoRequest (read : List ℕ) : Type 0 where
  pub asked : (request : FollowRequest) → IsAsked read request → ⊥
  pub end : read ≡ end_line → ⊥

-- these bytes are none, however they go on; or the input has ended with them
abbrev pub IsMalformed : List ℕ → Option (List ℕ) → Type 0
IsMalformed read after = ((more : List ℕ) → IsNoRequest (read ++ more))
    ⊎ (IsAtEnd after × IsNoRequest read)

-- a line is not ended, or not soon enough
abbrev pub IsBadLine : List ℕ → Option (List ℕ) → Type 0
IsBadLine read after = HasNoEnd read × ((10 ≤ length read) ⊎ IsAtEnd after)

-- the input has ended before so many bytes
abbrev pub IsShortOf : ℕ → List ℕ → Option (List ℕ) → Type 0
IsShortOf count read after = (length read < count) × IsAtEnd after

-- the digits are no number, or the input has ended before so many bytes
abbrev pub IsUnsized : List ℕ → List ℕ → Option (List ℕ) → Type 0
IsUnsized digits read after = ((decimal_of most_digits digits ≡ None) × (read ≡ []))
    ⊎ ((size : ℕ) × (decimal_of most_digits digits ≡ Some size) × IsShortOf size read after)

-- these are no bytes after their number, however they go on; or the input has ended with them
abbrev pub IsUnframed : List ℕ → Option (List ℕ) → Type 0
IsUnframed read after = ((more bytes : List ℕ) → IsFramed (read ++ more) bytes → ⊥)
    ⊎ (IsAtEnd after × ((bytes : List ℕ) → IsFramed read bytes → ⊥))

-- some bytes were read, and then a failure of the reader is counted and reports its count; or they
-- are wrong, and a first failure is said
abbrev pub FailsToRead : (List ℕ → Option (List ℕ) → Type 0) → Option (List ℕ) → Option (List ℕ) → ℕ
    → ℕ → HostFault → Type 0
FailsToRead IsWrong left_old left_new old new fault = (read : List ℕ)
    × Consumes left_old left_new read
    × (IsCounted old new fault
    ⊎ ((new ≡ old) × (fault ≡ hosts.Device 1) × IsWrong read left_new))

-- why nothing was read: a failure of the reader is counted and reports its count; an input that has
-- no requests says a first failure
abbrev pub ReadAccounts : {A : Type 0} → Result A HostFault → ℕ → ℕ → Type 0
ReadAccounts (Ok value) old new = new ≡ old
ReadAccounts (Err fault) old new = IsCounted old new fault
    ⊎ ((new ≡ old) × (fault ≡ hosts.Device 1))
