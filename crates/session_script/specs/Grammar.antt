-- The grammar of scripts, as a relation between a text and events.
use Rattle.std.specs.Prelude.{◌≡◌, ℕ, zero, suc, ◌+◌, ◌≤◌, ◌⊎◌, true, false, List, [], ◌∷◌, ◌++◌}
use Rattle.std.specs.Prelude.{length, map, codes, Some, Ok, Err}
use Rattle.text_words.specs.Lines.{lines_of}
use Rattle.text_words.specs.Words.{NoBlank}
use Rattle.text_words.specs.Numbers.{decimal_of, hexadecimal_of}
use Rattle.user_names.specs.Users.{user_of}
use Rattle.session_script.specs.Users.{KnownUser, has_device, names_of}
use Rattle.session_script.specs.Cards.{card_of}
use Rattle.session_script.specs.Script.{EventValue, Run, Line, Tick, Serve, Auto, Deck, Transfer}
use Rattle.session_script.specs.Script.{cards_after, is_ignored, script_of}

-- a word that is the name of this user
pub record IsName (names : List (List ℕ)) (user : ℕ) (name : List ℕ) : Type 0 where
  pub whole : NoBlank name
  pub found : user_of names name ≡ Some user

-- `RUN u n`: one blank between the words, n of 1 to 7 decimal digits and 1 to 1,000,000
pub record SaysRun (names : List (List ℕ)) (line : List ℕ) (user units : ℕ) : Type 0 where
  pub name : List ℕ
  pub digits : List ℕ
  pub spelled : line ≡ codes "RUN" ++ 32 ∷ (name ++ 32 ∷ digits)
  pub named : IsName names user name
  pub number : decimal_of 7 digits ≡ Some units
  pub least : 1 ≤ units
  pub most : units ≤ 1000000

-- `LINE u text`: the text is the rest after one blank, which an empty text may lack
pub record SaysLine (names : List (List ℕ)) (line : List ℕ) (user : ℕ)
    (text : List ℕ) : Type 0 where
  pub name : List ℕ
  pub named : IsName names user name
  pub spelled : (line ≡ codes "LINE" ++ 32 ∷ (name ++ 32 ∷ text)) ⊎ ((text ≡ []) × (line ≡ codes "LINE" ++ 32 ∷ name))

-- `TICK u`: one blank between the words
pub record SaysTick (names : List (List ℕ)) (line : List ℕ) (user : ℕ) : Type 0 where
  pub name : List ℕ
  pub spelled : line ≡ codes "TICK" ++ 32 ∷ name
  pub named : IsName names user name

-- `SERVE u addr`: one blank between the words, addr of three hexadecimal digits, of a device which
-- that user has
pub record SaysServe (users : List KnownUser) (line : List ℕ) (user device : ℕ) : Type 0 where
  pub name : List ℕ
  pub digits : List ℕ
  pub spelled : line ≡ codes "SERVE" ++ 32 ∷ (name ++ 32 ∷ digits)
  pub named : IsName (names_of users) user name
  pub number : hexadecimal_of 3 3 digits ≡ Some device
  pub had : has_device users user device ≡ true

-- `AUTO k`: one blank between the words, k of 1 to 7 decimal digits and 1 to 100,000
pub record SaysAuto (line : List ℕ) (turns : ℕ) : Type 0 where
  pub digits : List ℕ
  pub spelled : line ≡ codes "AUTO" ++ 32 ∷ digits
  pub number : decimal_of 7 digits ≡ Some turns
  pub least : 1 ≤ turns
  pub most : turns ≤ 100000

-- `DECK u k`: one blank between the words, k of 1 to 7 decimal digits and 1 to 1000; the first k
-- lines after it are the cards
pub record SaysDeck (names : List (List ℕ)) (line : List ℕ) (after : List (List ℕ)) (user : ℕ)
    (cards : List (List ℕ)) : Type 0 where
  pub name : List ℕ
  pub digits : List ℕ
  pub own : List (List ℕ)
  pub others : List (List ℕ)
  pub spelled : line ≡ codes "DECK" ++ 32 ∷ (name ++ 32 ∷ digits)
  pub named : IsName names user name
  pub number : decimal_of 7 digits ≡ Some (length own)
  pub least : 1 ≤ length own
  pub most : length own ≤ 1000
  pub follow : after ≡ own ++ others
  pub punched : cards ≡ map card_of own

-- `TRANSFER A id B`: one blank between the words, id of 1 to 7 decimal digits
pub record SaysTransfer (names : List (List ℕ)) (line : List ℕ) (user id to : ℕ) : Type 0 where
  pub name : List ℕ
  pub digits : List ℕ
  pub receiver : List ℕ
  pub spelled : line ≡ codes "TRANSFER" ++ 32 ∷ (name ++ 32 ∷ (digits ++ 32 ∷ receiver))
  pub named : IsName names user name
  pub whole : NoBlank digits
  pub number : decimal_of 7 digits ≡ Some id
  pub found : user_of names receiver ≡ Some to

-- a line says an event, where these lines come after it
abbrev pub Says : List KnownUser → List ℕ → List (List ℕ) → EventValue → Type 0
Says users line after (Run user units) = SaysRun (names_of users) line user units
Says users line after (Line user text) = SaysLine (names_of users) line user text
Says users line after (Tick user) = SaysTick (names_of users) line user
Says users line after (Serve user device) = SaysServe users line user device
Says users line after (Auto turns) = SaysAuto line turns
Says users line after (Deck user cards) = SaysDeck (names_of users) line after user cards
Says users line after (Transfer user id to) = SaysTransfer (names_of users) line user id to

-- these lines, of which the first so many are cards, say these events; so many of the lines after
-- them are cards then. A card has at most 80 characters; each other line is ignored, or says the
-- next event
abbrev pub Reads : List KnownUser → ℕ → List (List ℕ) → List (List ℕ) → List EventValue → ℕ → Type 0
Reads users cards [] after events left = (events ≡ []) × (left ≡ cards)
Reads users (suc cards) (line ∷ lines) after events left = (length line ≤ 80)
    × Reads users cards lines after events left
Reads users zero (line ∷ lines) after events left =
    ((is_ignored line ≡ true) × Reads users 0 lines after events left)
    ⊎ ((is_ignored line ≡ false) × (e : EventValue) × (es : List EventValue) × (events ≡ e ∷ es)
    × Says users line (lines ++ after) e
    × Reads users (cards_after e) lines after es left)

-- the lines are a script of these events
abbrev pub IsScript : List KnownUser → List (List ℕ) → List EventValue → Type 0
IsScript users lines events = Reads users 0 lines [] events 0

-- this line, counted from 1, is the first that no script has: those before it are read, and it
-- can't be read after them
pub record IsFirstBad (users : List KnownUser) (lines : List (List ℕ)) (number : ℕ) : Type 0 where
  pub before : List (List ℕ)
  pub bad : List ℕ
  pub after : List (List ℕ)
  pub split : lines ≡ before ++ bad ∷ after
  pub numbered : number ≡ length before + 1
  pub events : List EventValue
  pub cards : ℕ
  pub accepted : Reads users 0 before (bad ∷ after) events cards
  pub refused : (es : List EventValue) (left : ℕ) → Reads users cards (bad ∷ []) after es left → ⊥

-- what is read is in the grammar, what is in the grammar is read, and the line that is reported is
-- the first bad one
abbrev pub ReadsGrammar : Type 0
ReadsGrammar = (users : List KnownUser) (text : List ℕ) →
    ((events : List EventValue) → script_of users text ≡ Ok events
    → IsScript users (lines_of text) events)
    × ((events : List EventValue) → IsScript users (lines_of text) events
    → script_of users text ≡ Ok events)
    × ((number : ℕ) → script_of users text ≡ Err number → IsFirstBad users (lines_of text) number)
