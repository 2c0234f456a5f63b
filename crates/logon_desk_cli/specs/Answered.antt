-- What the program makes of a frame, and what it writes then.
use Rattle.std.specs.Prelude.{◌≡◌, ℕ, ◌==◌, ◌&&◌, nat_le, nat_lt, if◌then◌else◌, Bool}
use Rattle.std.specs.Prelude.{true, false, List, [], ◌∷◌, ◌++◌}
use Rattle.std.specs.Prelude.{count_by, length, codes, Option, Some, None, MatchOption}
use Rattle.std.specs.List.{filter}
use Rattle.logon_desk.specs.Desk.{Desk, Event, Step, connection_at, new_desk}
use Rattle.logon_desk.specs.Strangers.{is_stranger}
use Rattle.logon_desk_cli.specs.Events.{MakesRoomFor, all_served, given, is_for, is_open, run}
use Rattle.logon_desk_cli.specs.Printed.{line, printed}
use Rattle.logon_desk_cli.specs.Read.{frame_of}
use Rattle.logon_desk_cli.specs.declared.frame.Frame.{Frame}
use Rattle.logon_desk_cli.specs.declared.frame.Frame.TheVariants.{User, Room, Open, Came, Gone}
use Rattle.logon_desk_cli.specs.declared.frame.Frame.TheVariants.{Passed, Show}
use Rattle.logon_desk_cli.specs.declared.frame.Frame.TheVariants.{Keep, Turn, Done, Says}

-- the program between two lines: the users that were named, the desk once it is there, the places
-- whose bytes are not all taken, and what is to be written
pub record Program : Type 0 where
  pub names : List (List ℕ)
  pub desk : Option Desk
  pub reading : List ℕ
  pub text : List ℕ

-- the place to which bytes have come, if it is open
abbrev pub came_at : Desk → Frame → List ℕ
came_at d (User name) = []
came_at d (Room places) = []
came_at d (Open place address) = []
came_at d (Came place bytes) = if is_open d place then place ∷ [] else []
came_at d (Gone place) = []
came_at d Passed = []
came_at d (Show user text) = []
came_at d (Keep user line) = []
came_at d (Turn user state) = []
came_at d (Done user) = []
came_at d (Says place is_right guess) = []

-- how many bytes wait at a place
abbrev pub waits_at : Desk → ℕ → ℕ
waits_at d place = length (connection_at d place).waiting

-- bytes of an open connection wait
abbrev pub still_waits : Desk → ℕ → Bool
still_waits d place = is_open d place && nat_lt 0 (waits_at d place)

-- all bytes of an open connection were taken
abbrev pub is_read : Desk → ℕ → Bool
is_read d place = is_open d place && (waits_at d place == 0)

-- the lines that more bytes may come from these places
abbrev pub read_lines : Desk → List ℕ → List ℕ
read_lines d [] = []
read_lines d (place ∷ places) = (if is_read d place then line (codes "READ") place [] else [])
    ++ read_lines d places

-- the last line that is written for a frame: how many are about to log on
abbrev pub that_line : ℕ → List ℕ
that_line strangers = line (codes "THAT") strangers []

-- all that is written for a frame: a line for each output of the desk in order, the places that are
-- read, and the last line
abbrev pub answer : Step → List ℕ → List ℕ
answer done reading =
    printed done.outputs
    ++ (read_lines done.desk reading ++ that_line (count_by is_stranger done.desk.connections))

-- room was made for the frame, its event has happened at the desk, and then all places were served
pub record AreEvents (d : Desk) (now : ℕ) (frame : Frame) (events : List Event) : Type 0 where
  pub room : List Event
  pub makes_room : MakesRoomFor d frame room
  pub first : List Event
  pub is_given : first ≡ room ++ given (run d room).desk now frame
  pub happen : events ≡ first ++ all_served (run d first).desk now

-- these events have happened for the frame, and what the desk did is written
pub record IsAnswered (d : Desk) (now : ℕ) (frame : Frame) (reading text : List ℕ) (new : Desk)
    (reading_after text_after : List ℕ) : Type 0 where
  pub events : List Event
  pub are : AreEvents d now frame events
  pub left : new ≡ (run d events).desk
  pub still_reading : reading_after ≡ filter (still_waits new) (reading ++ came_at d frame)
  pub written : text_after ≡ text ++ answer (run d events) (reading ++ came_at d frame)

-- a frame for a desk that has its place or its user is answered; another one changes nothing
abbrev pub AnswersFrame : Program → Desk → ℕ → Frame → Bool → Program → Type 0
AnswersFrame old d now frame true new =
    (is_for d frame ≡ true) × (new.names ≡ old.names)
    × (after : Desk) × (new.desk ≡ Some after)
    × IsAnswered d now frame old.reading old.text after new.reading new.text
AnswersFrame old d now frame false new = (is_for d frame ≡ false) × (new ≡ old)

-- at most 64 users and 1,024 places
abbrev pub has_room : Program → ℕ → Bool
has_room p places = nat_le places 1024 && nat_le (length p.names) 64

-- a desk for these users, with so many places
abbrev pub with_desk : Program → ℕ → Program
with_desk p places =
    record p { desk = Some (new_desk p.names places); text = p.text ++ that_line 0 }

-- a frame before the desk is there
abbrev pub Begins : Program → Frame → Bool → Program → Type 0
Begins old (User name) taken new = (taken ≡ nat_lt (length old.names) 64)
    × (new ≡ record old { names = old.names ++ name ∷ [] })
Begins old (Room places) taken new = (taken ≡ has_room old places)
    × (new ≡ (if has_room old places then with_desk old places else old))
Begins old (Open place address) taken new = (taken ≡ false) × (new ≡ old)
Begins old (Came place bytes) taken new = (taken ≡ false) × (new ≡ old)
Begins old (Gone place) taken new = (taken ≡ false) × (new ≡ old)
Begins old Passed taken new = (taken ≡ false) × (new ≡ old)
Begins old (Show user text) taken new = (taken ≡ false) × (new ≡ old)
Begins old (Keep user line) taken new = (taken ≡ false) × (new ≡ old)
Begins old (Turn user state) taken new = (taken ≡ false) × (new ≡ old)
Begins old (Done user) taken new = (taken ≡ false) × (new ≡ old)
Begins old (Says place is_right guess) taken new = (taken ≡ false) × (new ≡ old)

-- what the program makes of a frame, and whether it goes on
abbrev pub TakesFrame : Program → ℕ → Frame → Bool → Program → Type 0
TakesFrame old now frame taken new =
    MatchOption old.desk (Begins old frame taken new) (λ d. AnswersFrame old d now frame taken new)

-- what the program makes of a line, and whether it goes on: a line that is no frame ends it
abbrev pub TakesLine : Program → List ℕ → Bool → Program → Type 0
TakesLine old text taken new =
    MatchOption (frame_of text) ((taken ≡ false) × (new ≡ old))
    (λ found. TakesFrame old found.time found.frame taken new)

-- before the first line
abbrev pub nothing_read : Program
nothing_read = record { names = []; desk = None; reading = []; text = [] }
