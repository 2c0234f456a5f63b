-- Whose guess goes first.
use Rattle.std.specs.Prelude.{ℕ, ◌==◌, ◌&&◌, Bool, false, List, nat_lt, not, count_by}
use Rattle.std.specs.Str.{bytes_eq}
use Rattle.logon_desk.specs.Guesses.{holds_back}
use Rattle.logon_desk.specs.declared.connection.Connection.{Connection}
use Rattle.logon_desk.specs.declared.connection.Stage.{Stage}
use Rattle.logon_desk.specs.declared.connection.Stage.TheVariants.{Gone, Naming, Asking, Waiting}
use Rattle.logon_desk.specs.declared.connection.Stage.TheVariants.{Judged}
use Rattle.logon_desk.specs.declared.connection.Stage.TheVariants.{Refused, On}
use Rattle.logon_desk.specs.declared.guesses.GuessedName.{GuessedName}

-- in this stage there is a guess at the name that is being judged, or that has waited since `since`
-- and so for longer than one that waits since `other`
abbrev pub is_earlier : Stage → List ℕ → ℕ → ℕ → Bool
is_earlier Gone name since other = false
is_earlier Naming name since other = false
is_earlier (Asking asked) name since other = false
is_earlier (Waiting guess) name since other = bytes_eq guess.name name && nat_lt since other
is_earlier (Judged guess) name since other = bytes_eq guess.name name
is_earlier Refused name since other = false
is_earlier (On user) name since other = false

-- the guess of a connection goes before one at this name from this address that waits since then
abbrev pub goes_before : List ℕ → ℕ → ℕ → Connection → Bool
goes_before name address since connection = (connection.address == address)
    && is_earlier connection.stage name connection.patience.due since

-- a guess of these connections goes before one at this name from this address
abbrev pub is_behind : List Connection → List ℕ → ℕ → ℕ → Bool
is_behind connections name address since =
    nat_lt 0 (count_by (goes_before name address since) connections)

-- guesses at this name from this address hold back the next one now
abbrev pub is_held : List GuessedName → List ℕ → ℕ → ℕ → Bool
is_held names name address now = nat_lt 0 (count_by (holds_back name address now) names)

-- it is the turn of a guess at this name from this address, which waits since then
abbrev pub has_turn : List Connection → List GuessedName → List ℕ → ℕ → ℕ → ℕ → Bool
has_turn connections names name address since now =
    not (is_held names name address now) && not (is_behind connections name address since)
