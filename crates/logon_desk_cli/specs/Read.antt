-- The frame that a line is.
use Rattle.std.specs.Prelude.{◌≡◌, ℕ, ◌+◌, ◌*◌, ◌==◌, ◌^◌, min, nat_lt, if◌then◌else◌, List, []}
use Rattle.std.specs.Prelude.{◌∷◌, codes, Option, Some, None, Result, Ok, Err}
use Rattle.std.specs.Option.{option_and_then, option_map, unwrap_or}
use Rattle.std.specs.Str.{bytes_eq}
use Rattle.text_words.specs.Numbers.{digit_value}
use Rattle.text_words.specs.Words.{after_word, word_of, words_of}
use Rattle.logon_desk_cli.specs.declared.frame.Frame.{Frame}
use Rattle.logon_desk_cli.specs.declared.frame.Frame.TheVariants.{User, Room, Open, Came, Gone}
use Rattle.logon_desk_cli.specs.declared.frame.Frame.TheVariants.{Passed, Show}
use Rattle.logon_desk_cli.specs.declared.frame.Frame.TheVariants.{Keep, Turn, Done, Says}
use Rattle.logon_desk_cli.specs.declared.frame.FrameError.{FrameError}
use Rattle.logon_desk_cli.specs.declared.frame.TimedFrame.{TimedFrame}
use Rattle.logon_desk_cli.specs.declared.frame.Verb.{Verb}
use Rattle.logon_desk_cli.specs.declared.frame.Verb.TheVariants as verbs
use Rattle.logon_desk_cli.specs.declared.frame.FrameError.TheVariants.{Faulty}

-- what follows a value, if there is one
abbrev pub and_then : {A B : Type 0} → Option A → (A → Option B) → Option B
and_then value next = option_and_then next value

-- a number of 64 bits, after the digits that spell n
abbrev pub more_digit : ℕ → ℕ → Option ℕ
more_digit n digit = if nat_lt (n * 16 + digit) (2 ^ 64) then Some (n * 16 + digit) else None

-- the number that more digits make of one
abbrev pub number_from : ℕ → List ℕ → Option ℕ
number_from n [] = Some n
number_from n (c ∷ cs) =
    and_then (digit_value c) (λ digit. and_then (more_digit n digit) (λ m. number_from m cs))

-- the byte that two hexadecimal digits spell
abbrev pub byte_of : ℕ → ℕ → Option ℕ
byte_of high low =
    and_then (digit_value high) (λ h. option_map (λ l. h * 16 + l) (digit_value low))

-- the bytes that pairs of hexadecimal digits spell
abbrev pub pairs_of : List ℕ → Option (List ℕ)
pairs_of [] = Some []
pairs_of (high ∷ []) = None
pairs_of (high ∷ low ∷ more) =
    and_then (byte_of high low) (λ byte. option_map (λ bytes. byte ∷ bytes) (pairs_of more))

-- bytes in hexadecimal; a hyphen is none
abbrev pub bytes_of : List ℕ → Option (List ℕ)
bytes_of digits = if bytes_eq digits (codes "-") then Some [] else pairs_of digits

-- the first of these words as a number, and as bytes
abbrev pub number_at : List (List ℕ) → Option ℕ
number_at [] = None
number_at (word ∷ words) = number_from 0 word

-- the bytes that the first word spells
abbrev pub bytes_at : List (List ℕ) → Option (List ℕ)
bytes_at [] = None
bytes_at (word ∷ words) = bytes_of word

-- the words after the first
abbrev pub after_first : List (List ℕ) → List (List ℕ)
after_first [] = []
after_first (word ∷ words) = words

-- what the first word of a line asks for
abbrev pub verb_of : List ℕ → Option Verb
verb_of word =
    if bytes_eq word (codes "USER") then Some verbs.User
    else if bytes_eq word (codes "ROOM") then Some verbs.Room
    else if bytes_eq word (codes "OPEN") then Some verbs.Open
    else if bytes_eq word (codes "CAME") then Some verbs.Came
    else if bytes_eq word (codes "GONE") then Some verbs.Gone
    else if bytes_eq word (codes "TIME") then Some verbs.Time
    else if bytes_eq word (codes "SHOW") then Some verbs.Show
    else if bytes_eq word (codes "KEEP") then Some verbs.Keep
    else if bytes_eq word (codes "TURN") then Some verbs.Turn
    else if bytes_eq word (codes "DONE") then Some verbs.Done
    else if bytes_eq word (codes "SAYS") then Some verbs.Says
    else None

-- the words from the second on
abbrev pub second : List (List ℕ) → List (List ℕ)
second words = after_first words

-- the words from the third on
abbrev pub third : List (List ℕ) → List (List ℕ)
third words = after_first (after_first words)

-- the words from the fourth on
abbrev pub fourth : List (List ℕ) → List (List ℕ)
fourth words = after_first (after_first (after_first words))

-- a number, and then another one or bytes
abbrev pub two_numbers : (ℕ → ℕ → Frame) → List (List ℕ) → Option Frame
two_numbers make words =
    and_then (number_at words) (λ n. option_map (λ m. make n m) (number_at (second words)))

-- a frame of a number and of bytes
abbrev pub number_and_bytes : (ℕ → List ℕ → Frame) → List (List ℕ) → Option Frame
number_and_bytes make words =
    and_then (number_at words) (λ n. option_map (λ bytes. make n bytes) (bytes_at (second words)))

-- a user, the minute of his line and the line
abbrev pub keep_of : List (List ℕ) → Option Frame
keep_of words =
    and_then (number_at words) (λ user. and_then (bytes_at (second words)) (λ minute.
    option_map (λ text. Keep user (record { minute = minute; text = text }))
    (bytes_at (third words))))

-- a place, 1 if the name and the password are right, the name and the password
abbrev pub says_of : List (List ℕ) → Option Frame
says_of words =
    and_then (number_at words) (λ place. and_then (number_at (second words)) (λ right.
    and_then (bytes_at (third words)) (λ name.
    option_map (λ password. Says place (right == 1)
    (record { name = name; password = password }))
    (bytes_at (fourth words)))))

-- the frame of these words; more words than it has are passed over
abbrev pub frame_with : Verb → List (List ℕ) → Option Frame
frame_with verbs.User words = option_map (λ name. User name) (bytes_at words)
frame_with verbs.Room words = option_map (λ places. Room places) (number_at words)
frame_with verbs.Open words = two_numbers Open words
frame_with verbs.Came words = number_and_bytes Came words
frame_with verbs.Gone words = option_map (λ place. Gone place) (number_at words)
frame_with verbs.Time words = Some Passed
frame_with verbs.Show words = number_and_bytes Show words
frame_with verbs.Keep words = keep_of words
frame_with verbs.Turn words = two_numbers Turn words
frame_with verbs.Done words = option_map (λ user. Done user) (number_at words)
frame_with verbs.Says words = says_of words

-- a frame with its time: no time is later than 2 ^ 61
abbrev pub timed : Verb → List (List ℕ) → Option TimedFrame
timed verb words =
    and_then (number_at words) (λ time.
    option_map (λ frame. record { time = min time (2 ^ 61); frame = frame })
    (frame_with verb (second words)))

-- the frame that a line is: a word, the time and what the word asks for
abbrev pub frame_of : List ℕ → Option TimedFrame
frame_of line =
    and_then (verb_of (word_of line))
    (λ verb. timed verb (words_of (unwrap_or (after_word line) [])))

-- what was read is this, and nothing if the text is faulty; where memory ran out it may be either
abbrev pub IsRead : {A : Type 0} → Result A FrameError → Option A → Type 0
IsRead (Ok value) text = text ≡ Some value
IsRead (Err e) text = e ≡ Faulty → text ≡ None
