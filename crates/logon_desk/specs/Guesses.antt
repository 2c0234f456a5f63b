-- How guesses at a name from an address hold back the next one.
use Rattle.std.specs.Prelude.{◌+◌, ◌-◌, ◌==◌, ◌&&◌, ℕ, Bool, List, [], ◌∷◌, ◌++◌, nat_le, nat_lt}
use Rattle.std.specs.Prelude.{drop, length, min, position, slice_index_or, slice_set, Option, Some}
use Rattle.std.specs.Prelude.{None, if◌then◌else◌}
use Rattle.std.specs.Str.{bytes_eq}
use Rattle.logon_desk.specs.declared.guesses.GuessedName.{GuessedName}

-- these are the guesses at this name from this address
abbrev pub is_of : List ℕ → ℕ → GuessedName → Bool
is_of name address g = bytes_eq g.name name && (g.address == address)

-- nothing is remembered of these guesses any more, and they hold back none
abbrev pub is_over : ℕ → GuessedName → Bool
is_over now g = nat_le g.until now && nat_le g.free now

-- at this time these guesses hold back the next one at this name from this address
abbrev pub holds_back : List ℕ → ℕ → ℕ → GuessedName → Bool
holds_back name address now g = is_of name address g && nat_lt now g.free

-- for how many milliseconds recent guesses are still remembered
abbrev pub debt : ℕ → ℕ → ℕ
debt until now = until - now

-- each guess is remembered for ten seconds more, and none for longer than 200
abbrev pub remembered : ℕ → ℕ → ℕ
remembered until now = min (debt until now) 190000 + 10000

-- a right one is remembered no more
abbrev pub right_after : ℕ → ℕ → ℕ
right_after until now = if nat_lt (debt until now) 10000 then now
    else now + min (debt until now - 10000) 200000

-- the first guess holds back the next one for a quarter of a second, and each further one for twice
-- as long, up to four seconds
abbrev pub wait_of : ℕ → ℕ
wait_of owed =
    if nat_lt owed 5000 then 0
    else (if nat_lt owed 15000 then 250
    else (if nat_lt owed 25000 then 500
    else (if nat_lt owed 35000 then 1000
    else (if nat_lt owed 45000 then 2000 else 4000))))

-- one more guess, about which the host is asked now
abbrev pub guessed : GuessedName → ℕ → GuessedName
guessed g now = record g {
  until = now + remembered g.until now;
  free = now + wait_of (remembered g.until now);
}

-- no guess at a name from an address
abbrev pub no_guess : List ℕ → ℕ → GuessedName
no_guess name address = record { name = name; address = address; until = 0; free = 0 }

-- of more than 1,024 names the oldest goes
abbrev pub last_names : List GuessedName → List GuessedName
last_names names = if nat_lt 1024 (length names) then drop 1 names else names

-- a name is added in the place of one that is over, if there is one
abbrev pub in_place : List GuessedName → GuessedName → Option ℕ → List GuessedName
in_place names g None = last_names (names ++ g ∷ [])
in_place names g (Some place) = slice_set names place g

-- the names with one more
abbrev pub with_name : List GuessedName → GuessedName → ℕ → List GuessedName
with_name names g now = in_place names g (position (is_over now) names)

-- the guesses at the name of this place, if it is there
abbrev pub last_at : List GuessedName → List ℕ → ℕ → Option ℕ → GuessedName
last_at names name address None = no_guess name address
last_at names name address (Some place) = slice_index_or names place (no_guess name address)

-- the guesses at a name from an address that are remembered
abbrev pub last_of : List GuessedName → List ℕ → ℕ → GuessedName
last_of names name address = last_at names name address (position (is_of name address) names)

-- these guesses are those at the name of this place, or a name more
abbrev pub noted_at : List GuessedName → GuessedName → ℕ → Option ℕ → List GuessedName
noted_at names g now None = with_name names g now
noted_at names g now (Some place) = slice_set names place g

-- the host is asked about a guess at a name from an address
abbrev pub asked_of : List GuessedName → List ℕ → ℕ → ℕ → List GuessedName
asked_of names name address now =
    noted_at names (guessed (last_of names name address) now) now
    (position (is_of name address) names)

-- a right guess at the name of this place
abbrev pub right_at : List GuessedName → ℕ → Option ℕ → List GuessedName
right_at names now None = names
right_at names now (Some place) =
    let g = slice_index_or names place (no_guess [] 0) in
    slice_set names place (record g { until = right_after g.until now })

-- the guess at a name from an address was right
abbrev pub after_right : List GuessedName → List ℕ → ℕ → ℕ → List GuessedName
after_right names name address now = right_at names now (position (is_of name address) names)
