-- Single units of a user, until one of them leaves what is sought.
use Rattle.std.specs.Prelude.{◌≡◌, ◌⊎◌, ◌==◌, ◌&&◌, ◌+◌, ◌≤◌, ℕ, Bool, true, false, List, [], ◌∷◌}
use Rattle.std.specs.Prelude.{not, if◌then◌else◌, nat_eq, nat_le, length, drop, replicate}
use Rattle.std.specs.Prelude.{slice_get, slice_index, slice_range}
use Rattle.std.specs.Prelude.{Option, Some, None, Result, Ok, Err}
use Rattle.std.specs.Int.{w32, from_be_bytes}
use Rattle.std.specs.Option.{option_and_then, option_eq}
use Rattle.text_words.specs.Numbers.{hexadecimal_of}
use Rattle.machine_panel.specs.Machine.{Machine}
use Rattle.session_script.specs.Script.{EventValue, Run, ScriptTakesMemory, script_of}
use Rattle.session_script.specs.Users.{KnownUser}
use Rattle.sessions.specs.Installed.{Installation, Step, machine_at}
use Rattle.sessions.specs.Schedule.{Act, Scene, acts, steps_of}
use Rattle.sessions.specs.Session.{IsPartly, IsPlayed}
use Rattle.sessions.specs.declared.follow.Seeking.{Seeking}
use Rattle.sessions.specs.declared.follow.Seeking.TheVariants as seekings
use Rattle.sessions.specs.declared.seek.Seek.{Seek}
use Rattle.sessions.specs.declared.seek.Sought.{Sought}
use Rattle.sessions.specs.declared.seek.Sought.TheVariants as soughts

-- ---- what is asked for

-- what a letter and a number say: that the next instruction is at an address, or that a general
-- register, or the word at an address, has another value
abbrev pub sought_as : ℕ → ℕ → Option Sought
sought_as letter number =
    if letter == 73 then Some (soughts.Address number)
    else if letter == 71 then Some (soughts.Register number)
    else if letter == 87 then Some (soughts.Word number)
    else None

-- what the first line of a text says: `I`, `G` or `W`, a blank and six hexadecimal digits
abbrev pub sought_of : List ℕ → Option Sought
sought_of text =
    if nat_le 9 (length text) && slice_index text 1 == 32 && slice_index text 8 == 10
    then option_and_then (sought_as (slice_index text 0))
    (hexadecimal_of 6 6 (slice_range text 2 8))
    else None

-- the user and the units of a script that is one `RUN`
abbrev pub seek_run : Sought → Result (List EventValue) ℕ → Option Seek
seek_run sought (Ok (Run user units ∷ [])) =
    Some (record { user = user; units = units; sought = sought })
seek_run sought other = None

-- what a text asks for: the line that says what is sought, and the `RUN` of a script after it
abbrev pub seek_of : List KnownUser → List ℕ → Option Seek
seek_of users text =
    option_and_then (λ sought. seek_run sought (script_of users (drop 9 text))) (sought_of text)

-- memory may be refused to a text: where its script is read, or, if it asks for units, where they
-- run
abbrev pub SeekTakesMemory : List KnownUser → List ℕ → Type 0
SeekTakesMemory users text = ScriptTakesMemory users (drop 9 text)
    ⊎ ((seek : Seek) × (seek_of users text ≡ Some seek))

-- ---- what is found

-- a word of storage, if its four bytes are there
abbrev pub word_of : Option ℕ → Option ℕ → Option ℕ → Option ℕ → Option ℕ
word_of (Some a) (Some b) (Some c) (Some d) = Some (from_be_bytes w32 (a ∷ b ∷ c ∷ d ∷ []))
word_of a b c d = None

-- the word at an address
abbrev pub word_in : List ℕ → ℕ → Option ℕ
word_in bytes at = word_of (slice_get bytes at) (slice_get bytes (at + 1))
    (slice_get bytes (at + 2)) (slice_get bytes (at + 3))

-- the value in a machine of what is sought: its instruction address, a register or a word
abbrev pub value_in : Machine → Sought → Option ℕ
value_in m (soughts.Address address) = Some m.core.processor.cpu.psw.address
value_in m (soughts.Register number) = slice_get m.core.processor.cpu.general number
value_in m (soughts.Word address) = word_in m.core.processor.bytes address

-- the instruction address is the one that is sought, or the value is another one than at first
abbrev pub is_found : Sought → Option ℕ → Option ℕ → Bool
is_found (soughts.Address address) first now = option_eq nat_eq now (Some address)
is_found (soughts.Register number) first now = not (option_eq nat_eq now first)
is_found (soughts.Word address) first now = not (option_eq nat_eq now first)

-- the same, in an installation that was so at first
abbrev pub found_in : {W : Type 0} → Installation W → Seek → W → W → Bool
found_in i seek old new = is_found seek.sought
    (value_in (machine_at (i.seen old) seek.user) seek.sought)
    (value_in (machine_at (i.seen new) seek.user) seek.sought)

-- ---- what is done

-- so many single units of a user
abbrev pub single_units : ℕ → ℕ → List Act
single_units user count = acts (replicate count (Run user 1))

-- nothing is found after these units but the last, and this is whether it is found after that one
abbrev pub IsFirstFound : {W : Type 0} → (W → Bool) → Bool → List (Step W) → Type 0
IsFirstFound found last [] = last ≡ false
IsFirstFound found last (step ∷ []) = found step.left ≡ last
IsFirstFound found last (step ∷ next ∷ more) =
    (found step.left ≡ false) × IsFirstFound found last (next ∷ more)

-- single units were played, until what is sought was found, or until there were as many as were
-- asked for
pub record IsSought {W : Type 0} (i : Installation W) (seek : Seek) (found : Bool)
    (old new : Scene W) (before after : Option (List ℕ)) : Type 0 where
  pub count : ℕ
  pub most : count ≤ seek.units
  pub all : found ≡ false → count ≡ seek.units
  pub played : IsPlayed i (single_units seek.user count) old new before after
  pub first : IsFirstFound (found_in i seek old.world) found (steps_of played.entries)

-- a beginning of at most so many single units was played, and a beginning of its lines written
pub record IsSoughtPartly {W : Type 0} (i : Installation W) (seek : Seek) (old : Scene W) (new : W)
    (before after : Option (List ℕ)) : Type 0 where
  pub count : ℕ
  pub most : count ≤ seek.units
  pub played : IsPartly i (single_units seek.user count) old new before after

-- what became of a text: what it asks for was sought; or it asks for nothing, and nothing was done
abbrev pub BecameSought : {W : Type 0} → Installation W → List ℕ → Scene W → Seeking W
    → Option (List ℕ) → Option (List ℕ) → Type 0
BecameSought i text old (seekings.Done new found) before after = (seek : Seek)
    × (seek_of (i.seen old.world).users text ≡ Some seek)
    × IsSought i seek found old new before after
BecameSought i text old (seekings.Refused new) before after =
    (seek_of (i.seen old.world).users text ≡ None) × (new ≡ old) × (after ≡ before)

-- a beginning of what a text asks for was done
pub record IsTextSoughtPartly {W : Type 0} (i : Installation W) (text : List ℕ) (old : Scene W)
    (before after : Option (List ℕ)) : Type 0 where
  pub seek : Seek
  pub asked : seek_of (i.seen old.world).users text ≡ Some seek
  pub left : W
  pub played : IsSoughtPartly i seek old left before after
