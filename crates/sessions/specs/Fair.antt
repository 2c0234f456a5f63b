-- Nobody in a session waits for ever: the queue of its users and the line of its programs are dealt
-- as the dispatcher deals them.
use Rattle.std.specs.Prelude.{◌≡◌, ◌⊎◌, ℕ, ◌+◌, ◌==◌, true, false, List, [], ◌∷◌}
use Rattle.s370_subchannels.specs.Starts.{is_started, works}
use Rattle.s370_subchannels.specs.Subchannels.{next_start}
use Rattle.s370_subchannels.specs.declared.subchannel.Subchannel.{Subchannel}
use Rattle.cp_dispatch.specs.Turns.{StandsWithin}
use Rattle.cp_dispatch.specs.declared.program.Program.{Program}
use Rattle.session_script.specs.Script.{EventValue, Run, Serve}
use Rattle.sessions.specs.Installed.{Installation, subchannels_at}
use Rattle.sessions.specs.Schedule.{Act, Applies, AreDone, Entry, Answered, Dealt, Idle, Passed}
use Rattle.sessions.specs.Schedule.{Scene, Serves, Slices, is_user_on, ready_in, slice_units}
use Rattle.sessions.specs.Schedule.{user_said}

-- how many slices these acts deal, and how many serves
abbrev pub slices : List Act → ℕ
slices [] = 0
slices (Applies said ∷ more) = slices more
slices (Slices ∷ more) = slices more + 1
slices (Serves ∷ more) = slices more

-- how many serves these acts deal
abbrev pub serves : List Act → ℕ
serves [] = 0
serves (Applies said ∷ more) = serves more
serves (Slices ∷ more) = serves more
serves (Serves ∷ more) = serves more + 1

-- this event was dealt
abbrev pub IsDealt : {W : Type 0} → EventValue → Entry W → Type 0
IsDealt said (Answered step) = ⊥
IsDealt said (Dealt step) = step.said ≡ said
IsDealt said Passed = ⊥
IsDealt said Idle = ⊥

-- it was dealt once or more
abbrev pub HasDealt : {W : Type 0} → EventValue → List (Entry W) → Type 0
HasDealt said [] = ⊥
HasDealt said (entry ∷ entries) = IsDealt said entry ⊎ HasDealt said entries

-- ---- users

-- a user neither logs on nor off by an event, and is ready where a slice is dealt
abbrev pub IsReadyFor : {W : Type 0} → Installation W → ℕ → Act → Scene W → Scene W → Type 0
IsReadyFor i user (Applies said) old new = user_said said ≡ user
    → is_user_on (i.seen new.world) user ≡ is_user_on (i.seen old.world) user
IsReadyFor i user Slices old new = ready_in (i.seen old.world) user ≡ true
IsReadyFor i user Serves old new = Unit {0}

-- he is so until he has a slice
abbrev pub StaysReady : {W : Type 0} → (i : Installation W) → ℕ → (all : List Act) → (old : Scene W)
    → (entries : List (Entry W)) → (new : Scene W) → AreDone i all old entries new → Type 0
StaysReady i user [] old [] new done = Unit {0}
StaysReady i user [] old (entry ∷ entries) new done = ⊥
StaysReady i user (act ∷ more) old [] new done = ⊥
StaysReady i user (act ∷ more) old (entry ∷ entries) new done =
    IsDealt (Run user slice_units) entry
    ⊎ (IsReadyFor i user act old done.0 × StaysReady i user more done.0 entries new done.2)

-- who has j users before him in the queue, and stays ready, has one of the next j + 1 slices
abbrev pub SlicesAreFair : {W : Type 0} → Installation W → Type 0
SlicesAreFair {W} i = (user : ℕ) (all : List Act) (old new : Scene W) (entries : List (Entry W))
    (done : AreDone i all old entries new) →
    StaysReady i user all old entries new done → StandsWithin user old.lines.users (slices all)
    → HasDealt (Run user slice_units) entries

-- ---- programs

-- the device of this address works, and was not started since the machine's next start had this
-- number
abbrev pub StillWorks : ℕ → ℕ → List Subchannel → Type 0
StillWorks address number [] = Unit {0}
StillWorks address number (d ∷ ds) =
    ((address == d.address) ≡ true → (works d.state ≡ true) × (is_started number d ≡ false))
    × StillWorks address number ds

-- an act leaves the program waiting: its device works after that, and was not started anew
abbrev pub IsWaiting : {W : Type 0} → Installation W → Program → Scene W → Scene W → Type 0
IsWaiting i program old new =
    let user = program.user in
    StillWorks program.device (next_start (subchannels_at (i.seen old.world) user))
    (subchannels_at (i.seen new.world) user)

-- the program waits until it is served
abbrev pub StaysWaiting : {W : Type 0} → (i : Installation W) → Program → (all : List Act)
    → (old : Scene W) → (entries : List (Entry W)) → (new : Scene W) → AreDone i all old entries new
    → Type 0
StaysWaiting i program [] old [] new done = Unit {0}
StaysWaiting i program [] old (entry ∷ entries) new done = ⊥
StaysWaiting i program (act ∷ more) old [] new done = ⊥
StaysWaiting i program (act ∷ more) old (entry ∷ entries) new done =
    IsDealt (Serve program.user program.device) entry
    ⊎ (IsWaiting i program old done.0 × StaysWaiting i program more done.0 entries new done.2)

-- one with j programs before it in the line that stays waiting has one of the next j + 1 serves
abbrev pub ServesAreFair : {W : Type 0} → Installation W → Type 0
ServesAreFair {W} i = (program : Program) (all : List Act) (old new : Scene W)
    (entries : List (Entry W)) (done : AreDone i all old entries new) →
    StaysWaiting i program all old entries new done
    → StandsWithin program old.lines.programs (serves all)
    → HasDealt (Serve program.user program.device) entries
