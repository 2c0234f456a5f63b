-- What a script says, line by line.
use Rattle.std.specs.Prelude.{◌≡◌, ◌⊎◌, ℕ, zero, suc, ◌+◌, ◌<◌, ◌==◌, ◌&&◌, Bool, true, false, not}
use Rattle.std.specs.Prelude.{if◌then◌else◌, is_some, nat_le, List, [], ◌∷◌, ◌++◌, length, codes}
use Rattle.std.specs.Prelude.{Option, Some, None, IfSome, Result, Ok, Err}
use Rattle.std.specs.Option.{option_map, option_and_then}
use Rattle.std.specs.Str.{bytes_eq}
use Rattle.text_words.specs.Lines.{and_then, lines_of}
use Rattle.text_words.specs.Words.{word_of, after_word}
use Rattle.text_words.specs.Numbers.{decimal_of, hexadecimal_of}
use Rattle.user_names.specs.Users.{user_of}
use Rattle.session_script.specs.Users.{KnownUser, has_device, names_of}
use Rattle.session_script.specs.Cards.{cards_in, cards_of}
use Rattle.session_script.specs.declared.event.ScriptEvent.{ScriptEvent}
use Rattle.session_script.specs.declared.event.ScriptEvent.TheVariants as events
use Rattle.session_script.specs.declared.reader.ScriptError.{ScriptError}
use Rattle.session_script.specs.declared.reader.ScriptError.TheVariants as errors

-- an event as a script names it
pub data EventValue : Type 0 where
  -- so many units of this user
  Run : ℕ → ℕ → EventValue
  -- this line, typed at the user's terminal
  Line : ℕ → List ℕ → EventValue
  -- a tick of this user's timer
  Tick : ℕ → EventValue
  -- the user's device of this address is served
  Serve : ℕ → ℕ → EventValue
  -- so many turns are dealt
  Auto : ℕ → EventValue
  -- the operator gives this user a deck of these cards
  Deck : ℕ → List (List ℕ) → EventValue
  -- the operator moves the deck of this number from this user's reader to that of the other
  Transfer : ℕ → ℕ → ℕ → EventValue

-- the event that a value is
abbrev pub said : ScriptEvent → EventValue
said (events.Run user units) = Run user units
said (events.Line user text) = Line user text.now
said (events.Tick user) = Tick user
said (events.Serve user device) = Serve user device
said (events.Auto turns) = Auto turns
said (events.Deck user cards) = Deck user (cards_of cards)
said (events.Transfer user id to) = Transfer user id to

-- the user whom an event names; turns name nobody
abbrev pub user_of_event : EventValue → Option ℕ
user_of_event (Run user units) = Some user
user_of_event (Line user text) = Some user
user_of_event (Tick user) = Some user
user_of_event (Serve user device) = Some user
user_of_event (Auto turns) = None
user_of_event (Deck user cards) = Some user
user_of_event (Transfer user id to) = Some user

-- a user whom an event names is one of these
abbrev pub IsOfUser : List KnownUser → EventValue → Type 0
IsOfUser users event = IfSome (user_of_event event) (λ user. user < length users)

-- a device that an event names is one which the user has, and a receiver is one of these users
abbrev pub IsOfDevice : List KnownUser → EventValue → Type 0
IsOfDevice users (Run user units) = Unit {0}
IsOfDevice users (Line user text) = Unit {0}
IsOfDevice users (Tick user) = Unit {0}
IsOfDevice users (Auto turns) = Unit {0}
IsOfDevice users (Deck user cards) = Unit {0}
IsOfDevice users (Transfer user id to) = to < length users
IsOfDevice users (Serve user device) = has_device users user device ≡ true

-- a number of units is 1 to 1,000,000
abbrev pub counted : ℕ → ℕ → Option EventValue
counted user units = if nat_le 1 units && nat_le units 1000000 then Some (Run user units) else None

-- `RUN u n`, after its first word
abbrev pub run_of : List (List ℕ) → List ℕ → Option EventValue
run_of names operands = option_and_then
    (λ user. option_and_then (λ digits. option_and_then (counted user) (decimal_of 7 digits))
    (after_word operands)) (user_of names (word_of operands))

-- a text that is missing is empty
abbrev pub text_of : Option (List ℕ) → List ℕ
text_of None = []
text_of (Some text) = text

-- `LINE u text`, after its first word
abbrev pub typed_of : List (List ℕ) → List ℕ → Option EventValue
typed_of names operands =
    option_map (λ user. Line user (text_of (after_word operands)))
    (user_of names (word_of operands))

-- `TICK u`, after its first word: nothing follows the name
abbrev pub tick_of : List (List ℕ) → List ℕ → Option EventValue
tick_of names operands = if is_some (after_word operands) then None
    else option_map Tick (user_of names (word_of operands))

-- a device that is served is one of the user's
abbrev pub served : List KnownUser → ℕ → ℕ → Option EventValue
served users user device = if has_device users user device then Some (Serve user device) else None

-- `SERVE u addr`, after its first word
abbrev pub serve_of : List KnownUser → List ℕ → Option EventValue
serve_of users operands =
    option_and_then (λ user.
    option_and_then (λ digits. option_and_then (served users user) (hexadecimal_of 3 3 digits))
    (after_word operands)) (user_of (names_of users) (word_of operands))

-- a number of turns is 1 to 100,000
abbrev pub turned : ℕ → Option EventValue
turned turns = if nat_le 1 turns && nat_le turns 100000 then Some (Auto turns) else None

-- `AUTO k`, after its first word
abbrev pub auto_of : List ℕ → Option EventValue
auto_of operands = option_and_then turned (decimal_of 7 operands)

-- a deck has 1 to 1000 cards, which are the next lines
abbrev pub dealt : ℕ → List (List ℕ) → ℕ → Option EventValue
dealt user after count = if nat_le 1 count && nat_le count 1000
    then option_map (Deck user) (cards_in count after) else None

-- `DECK u k`, after its first word; these lines come after it
abbrev pub deck_of : List (List ℕ) → List ℕ → List (List ℕ) → Option EventValue
deck_of names operands after =
    option_and_then (λ user.
    option_and_then (λ digits. option_and_then (dealt user after) (decimal_of 7 digits))
    (after_word operands)) (user_of names (word_of operands))

-- `id B` of `TRANSFER A id B`: the number of a deck and its receiver
abbrev pub receiver_of : List (List ℕ) → ℕ → List ℕ → Option EventValue
receiver_of names user operands =
    option_and_then (λ id.
    option_and_then (λ name. option_map (Transfer user id) (user_of names name))
    (after_word operands)) (decimal_of 7 (word_of operands))

-- `TRANSFER A id B`, after its first word
abbrev pub transfer_of : List (List ℕ) → List ℕ → Option EventValue
transfer_of names operands =
    option_and_then (λ user. option_and_then (receiver_of names user) (after_word operands))
    (user_of names (word_of operands))

-- by the first word
abbrev pub operands_of : List KnownUser → List ℕ → List ℕ → List (List ℕ) → Option EventValue
operands_of users verb operands after =
    if bytes_eq verb (codes "RUN") then run_of (names_of users) operands
    else if bytes_eq verb (codes "LINE") then typed_of (names_of users) operands
    else if bytes_eq verb (codes "TICK") then tick_of (names_of users) operands
    else if bytes_eq verb (codes "SERVE") then serve_of users operands
    else if bytes_eq verb (codes "AUTO") then auto_of operands
    else if bytes_eq verb (codes "DECK") then deck_of (names_of users) operands after
    else if bytes_eq verb (codes "TRANSFER") then transfer_of (names_of users) operands
    else None

-- what a line names before these lines, none where it is refused
abbrev pub said_of : List KnownUser → List ℕ → List (List ℕ) → Option EventValue
said_of users line after =
    option_and_then (λ operands. operands_of users (word_of line) operands after) (after_word line)

-- a line that is empty or begins with `*`
abbrev pub is_ignored : List ℕ → Bool
is_ignored [] = true
is_ignored (c ∷ cs) = c == 42

-- how many of the lines after an event are its cards
abbrev pub cards_after : EventValue → ℕ
cards_after (Deck user cards) = length cards
cards_after (Run user units) = 0
cards_after (Line user text) = 0
cards_after (Tick user) = 0
cards_after (Serve user device) = 0
cards_after (Auto turns) = 0
cards_after (Transfer user id to) = 0

-- how far a script is read: its events, and how many of the next lines are cards of the last of
-- them
pub record Reading : Type 0 where
  pub events : List EventValue
  pub cards : ℕ

-- an event is added to those before it; a line that is refused is reported by its number
abbrev pub joined : ℕ → List EventValue → Option EventValue → Result Reading ℕ
joined number so_far None = Err number
joined number so_far (Some one) =
    Ok (record { events = so_far ++ one ∷ []; cards = cards_after one })

-- what a line of this number, which is no card, adds to the events before it
abbrev pub line_step : List KnownUser → ℕ → List EventValue → List ℕ → List (List ℕ)
    → Result Reading ℕ
line_step users number so_far line after =
    if is_ignored line then Ok (record { events = so_far; cards = 0 })
    else joined number so_far (said_of users line after)

-- a line of this number, which is a card, has at most 80 characters; so many cards are left
-- after it
abbrev pub card_step : ℕ → List EventValue → ℕ → List ℕ → Result Reading ℕ
card_step number so_far left line = if nat_le (length line) 80
    then Ok (record { events = so_far; cards = left }) else Err number

-- a line of this number, by whether it is a card
abbrev pub step : List KnownUser → ℕ → List EventValue → ℕ → List ℕ → List (List ℕ)
    → Result Reading ℕ
step users number so_far zero line after = line_step users number so_far line after
step users number so_far (suc left) line after = card_step number so_far left line

-- the events of a script that is read so far and has these lines left, or the number of the first
-- that is refused
abbrev pub read_on : List KnownUser → ℕ → Reading → List (List ℕ) → Result (List EventValue) ℕ
read_on users number so_far [] = Ok so_far.events
read_on users number so_far (line ∷ lines) =
    and_then (step users number so_far.events so_far.cards line lines)
    (λ next. read_on users (number + 1) next lines)

-- the events that a script names, or the number of its first line that is refused
abbrev pub script_of : List KnownUser → List ℕ → Result (List EventValue) ℕ
script_of users text = read_on users 1 (record { events = []; cards = 0 }) (lines_of text)

-- a line takes memory if it names an event, which a card, a comment and an empty line do not
abbrev pub takes_memory : List KnownUser → ℕ → List ℕ → List (List ℕ) → Bool
takes_memory users zero line after = not (is_ignored line) && is_some (said_of users line after)
takes_memory users (suc left) line after = false

-- memory may be refused at one of the lines that are left: it takes memory, and each line before it
-- is read
abbrev pub MayRefuseMemory : List KnownUser → ℕ → Reading → List (List ℕ) → Type 0
MayRefuseMemory users number so_far [] = ⊥
MayRefuseMemory users number so_far (line ∷ lines) =
    (takes_memory users so_far.cards line lines ≡ true)
    ⊎ ((next : Reading)
    × (step users number so_far.events so_far.cards line lines ≡ Ok next)
    × MayRefuseMemory users (number + 1) next lines)

-- memory may be refused to a script: a line of it takes some, and each line before that is read
abbrev pub ScriptTakesMemory : List KnownUser → List ℕ → Type 0
ScriptTakesMemory users text =
    MayRefuseMemory users 1 (record { events = []; cards = 0 }) (lines_of text)

-- why a script is not read: memory, or this refusal
abbrev pub IsRefusal : {A : Type 0} → Result A ℕ → ScriptError → Type 0
IsRefusal script errors.Memory = Unit {0}
IsRefusal script (errors.Line number) = script ≡ Err number
