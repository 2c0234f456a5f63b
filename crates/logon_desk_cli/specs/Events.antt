-- The events of the desk's history that the program makes of a frame, and those that follow it.
use Rattle.std.specs.Prelude.{◌≡◌, ◌⊎◌, ◌<◌, ◌≤◌, ℕ, ◌+◌, ◌==◌, ◌&&◌, not, nat_lt, if◌then◌else◌}
use Rattle.std.specs.Prelude.{Bool, true, false, List, [], ◌∷◌, ◌++◌}
use Rattle.std.specs.Prelude.{count_by, length, zero, suc}
use Rattle.logon_desk.specs.Desk.{Answers, Closes, Comes, Desk, Event, Finishes, Keeps, Opens}
use Rattle.logon_desk.specs.Desk.{Prints, Step}
use Rattle.logon_desk.specs.Desk.{Takes, Turns, Wakes, connection_at, is_gone, is_taking, quietly}
use Rattle.logon_desk.specs.Desk.{step}
use Rattle.logon_desk.specs.Strangers.{IsBusiest, is_stranger}
use Rattle.logon_desk_cli.specs.declared.frame.Frame.{Frame}
use Rattle.logon_desk_cli.specs.declared.frame.Frame.TheVariants.{User, Room, Open, Came, Gone}
use Rattle.logon_desk_cli.specs.declared.frame.Frame.TheVariants.{Passed, Show}
use Rattle.logon_desk_cli.specs.declared.frame.Frame.TheVariants.{Keep, Turn, Done, Says}

-- these events happen at the desk, one after another
abbrev pub run : Desk → List Event → Step
run d [] = quietly d
run d (event ∷ more) =
    let first = step d event in
    let rest = run first.desk more in
    record { desk = rest.desk; outputs = first.outputs ++ rest.outputs }

-- the desk has the place or the user of a frame; frames that build a desk have none
abbrev pub is_for : Desk → Frame → Bool
is_for d (User name) = false
is_for d (Room places) = false
is_for d (Open place address) = nat_lt place (length d.connections)
is_for d (Came place bytes) = nat_lt place (length d.connections)
is_for d (Gone place) = nat_lt place (length d.connections)
is_for d Passed = true
is_for d (Show user text) = nat_lt user (length d.accounts)
is_for d (Keep user line) = nat_lt user (length d.accounts)
is_for d (Turn user state) = nat_lt user (length d.accounts)
is_for d (Done user) = nat_lt user (length d.accounts)
is_for d (Says place is_right guess) = nat_lt place (length d.connections)

-- bytes for a connection that has ended are passed over
abbrev pub is_open : Desk → ℕ → Bool
is_open d place = not (is_gone (connection_at d place).stage)

-- the event that a frame is, with the frame's time
abbrev pub given : Desk → ℕ → Frame → List Event
given d now (User name) = []
given d now (Room places) = []
given d now (Open place address) = Opens place address now ∷ []
given d now (Came place bytes) = if is_open d place then Comes place bytes ∷ [] else []
given d now (Gone place) = Closes place ∷ []
given d now Passed = []
given d now (Show user text) = Prints user text ∷ []
given d now (Keep user line) = Keeps user line ∷ []
given d now (Turn user state) = Turns user (nat_lt 0 state) (state == 2) ∷ []
given d now (Done user) = Finishes user ∷ []
given d now (Says place is_right guess) = Answers place guess is_right now ∷ []

-- if 80 are about to log on, one of those from the busiest address is closed
abbrev pub MakesRoom : Desk → List Event → Type 0
MakesRoom d room =
    ((count_by is_stranger d.connections < 80) × (room ≡ []))
    ⊎ ((c : ℕ) × (80 ≤ count_by is_stranger d.connections) × IsBusiest d.connections c
    × (room ≡ Closes c ∷ []))

-- room is made for a connection that opens, and for nothing else
abbrev pub MakesRoomFor : Desk → Frame → List Event → Type 0
MakesRoomFor d (User name) room = room ≡ []
MakesRoomFor d (Room places) room = room ≡ []
MakesRoomFor d (Open place address) room = MakesRoom d room
MakesRoomFor d (Came place bytes) room = room ≡ []
MakesRoomFor d (Gone place) room = room ≡ []
MakesRoomFor d Passed room = room ≡ []
MakesRoomFor d (Show user text) room = room ≡ []
MakesRoomFor d (Keep user line) room = room ≡ []
MakesRoomFor d (Turn user state) room = room ≡ []
MakesRoomFor d (Done user) room = room ≡ []
MakesRoomFor d (Says place is_right guess) room = room ≡ []

-- a byte waits at the connection, and is taken there now
abbrev pub takes_next : Desk → ℕ → Bool
takes_next d c = is_taking d c (connection_at d c).stage
    && not (length (connection_at d c).waiting == 0)

-- bytes are taken at a connection as long as one is taken there, and at most so many
unfoldable pub takes : ℕ → Desk → ℕ → ℕ → List Event
takes zero d c now = []
takes (suc most) d c now =
    if takes_next d c then Takes c now ∷ takes most (step d (Takes c now)).desk c now else []

-- at a place all bytes are taken that can be, and then what is due is done
abbrev pub served : Desk → ℕ → ℕ → List Event
served d c now = takes 4096 d c now ++ Wakes c now ∷ []

-- so many places are served in order, from this one on
unfoldable pub served_from : ℕ → Desk → ℕ → ℕ → List Event
served_from zero d c now = []
served_from (suc places) d c now =
    let here = served d c now in here ++ served_from places (run d here).desk (c + 1) now

-- all places are served
abbrev pub all_served : Desk → ℕ → List Event
all_served d now = served_from (length d.connections) d 0 now
