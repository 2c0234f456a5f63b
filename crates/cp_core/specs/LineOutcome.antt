-- What an event is answered, and what becomes of the files of all users.
use Rattle.std.specs.Prelude.{◌≡◌, ℕ, ◌-◌, List, [], ◌++◌, length, None}
use Rattle.s370_channel.specs.Reading.{as_reached}
use Rattle.s370_intr.specs.Run.{IsLacking}
use Rattle.cp_dat.specs.Supplied.{HasNoRoom}
use Rattle.machine_panel.specs.Run.{TellsRun, notice_of}
use Rattle.machine_panel.specs.Tick.{TickNeeds}
use Rattle.machine_devices.specs.declared.reply.UserResponse.TheVariants.{Nothing}
use Rattle.machine_devices.specs.Serve.{IsServedAt}
use Rattle.machine_devices.specs.Events.{user_of}
use Rattle.machine_devices.specs.Notes.{closed_by, deck_noted, move_noted, next_file}
use Rattle.machine_devices.specs.Replies.{IsLineTold, given, moved, saying}
use Rattle.machine_devices.specs.Spooling.{deck_queued}
use Rattle.cp_core.specs.Local.{Step}
use Rattle.cp_core.specs.Supply.{IsShort}
use Rattle.cp_core.specs.Wants.{DeviceNeeds, LineWants}
use Rattle.cp_core.specs.System.{SystemView, machine_at, user_at, world_of}
use Rattle.machine_devices.specs.declared.reply.Ended.{Ended}
use Rattle.machine_devices.specs.declared.reply.Ended.TheVariants.{Ran, Served, Done, FramesOut}
use Rattle.machine_devices.specs.declared.event.Event.{Event}
use Rattle.machine_devices.specs.declared.event.Event.TheVariants.{Run, Line, Tick, Deck, Serve}
use Rattle.machine_devices.specs.declared.event.Event.TheVariants.{Transfer}
use Rattle.machine_devices.specs.declared.reply.Reply.{Reply}
use Rattle.machine_devices.specs.declared.files.FileNote.{FileNote}

-- ---- out of frames

-- nothing is said, and nothing has happened but that pages came: the event needs one for which
-- there is no room. (The volumes are as they were: each minidisk of this user by `users`, and the
-- rest as the event is confined.)
pub record IsOut (needs : ℕ → Type 0) (size : ℕ) (old : SystemView) (reply : Reply)
    (new : SystemView) (is_short : ℕ → Type 0) : Type 0 where
  pub silent : reply.said ≡ Nothing
  pub none : reply.delivered ≡ None
  pub same : new ≡ record old { supply = new.supply; volumes = new.volumes; kept = new.kept }
  pub lacking : IsLacking needs size is_short

-- ---- a run and a tick

-- as the machine alone says it, with its notice
abbrev pub TellsOfRun : ℕ → ℕ → SystemView → Reply → Ended → SystemView → Type 0
TellsOfRun user asked old reply (Ran ran) new =
    TellsRun asked (machine_at old user)
    (record {
      machine = machine_at new user;
      units = ran.units;
      reason = ran.reason;
      notice = notice_of ran.reason;
    }) (HasNoRoom new.supply user)
    × (reply.said ≡ saying (notice_of ran.reason))
    × (reply.delivered ≡ None)
TellsOfRun user asked old reply (Served done) new = ⊥
TellsOfRun user asked old reply Done new = ⊥
TellsOfRun user asked old reply FramesOut new = ⊥

-- what the reply to a tick reports
abbrev pub TellsOfTick : ℕ → SystemView → Reply → Ended → SystemView → Type 0
TellsOfTick user old reply Done new = (reply.said ≡ Nothing) × (reply.delivered ≡ None)
TellsOfTick user old reply FramesOut new =
    IsOut (TickNeeds (machine_at old user)) (length (machine_at old user).core.processor.bytes) old
    reply new (HasNoRoom new.supply user)
TellsOfTick user old reply (Ran ran) new = ⊥
TellsOfTick user old reply (Served done) new = ⊥

-- ---- a line

-- the user's machine answers as a machine with devices does in his world
abbrev pub TellsOfLine : ℕ → List ℕ → SystemView → Reply → Ended → SystemView → Type 0
TellsOfLine user typed old reply Done new =
    IsLineTold (world_of old user) (length old.users) (next_file old.files) typed (user_at old user)
    reply
TellsOfLine user typed old reply FramesOut new =
    let needs = LineWants typed (user_at old user) in
    IsOut needs (length (machine_at old user).core.processor.bytes) old reply new
    (IsShort new.supply user needs)
TellsOfLine user typed old reply (Ran ran) new = ⊥
TellsOfLine user typed old reply (Served done) new = ⊥

-- ---- a deck of the operator

-- what the reply to a deck reports
abbrev pub TellsOfDeck : ℕ → List (List ℕ) → SystemView → Reply → Ended → Type 0
TellsOfDeck user cards old reply Done = (reply.said ≡ Nothing)
    × (reply.delivered ≡ given user (next_file old.files) cards)
TellsOfDeck user cards old reply FramesOut = ⊥
TellsOfDeck user cards old reply (Ran ran) = ⊥
TellsOfDeck user cards old reply (Served done) = ⊥

-- what the reply to a deck that is moved reports
abbrev pub TellsOfTransfer : ℕ → ℕ → ℕ → SystemView → Reply → Ended → Type 0
TellsOfTransfer user id to old reply Done = (reply.said ≡ Nothing)
    × (reply.delivered
    ≡ moved to (next_file old.files) (deck_queued (user_at old user).devices id))
TellsOfTransfer user id to old reply FramesOut = ⊥
TellsOfTransfer user id to old reply (Ran ran) = ⊥
TellsOfTransfer user id to old reply (Served done) = ⊥

-- ---- a serve

-- the device is served as that of a machine of its own whose program is read when it is reached,
-- and says whether there was one
abbrev pub TellsOfServe : ℕ → ℕ → SystemView → Reply → Ended → SystemView → Type 0
TellsOfServe user device old reply (Served done) new =
    IsServedAt as_reached device (user_at old user) done (user_at new user) × (reply.said ≡ Nothing)
    × (reply.delivered ≡ None)
TellsOfServe user device old reply FramesOut new =
    let needs = DeviceNeeds device (user_at old user) in
    IsOut needs (length (machine_at old user).core.processor.bytes) old reply new
    (IsShort new.supply user needs)
TellsOfServe user device old reply Done new = ⊥
TellsOfServe user device old reply (Ran ran) new = ⊥

-- ---- files

-- the files that get numbers by an event
abbrev pub noted_by : Event → SystemView → SystemView → List FileNote
noted_by (Run user asked) old new = []
noted_by (Line user typed) old new = closed_by user (user_at old user) (user_at new user)
noted_by (Tick user) old new = []
noted_by (Deck user cards) old new = deck_noted user cards.now
noted_by (Serve user device) old new = []
noted_by (Transfer user id to) old new = move_noted to (deck_queued (user_at old user).devices id)

-- ---- an event

-- what the reply to each event reports
abbrev pub TellsOf : SystemView → Event → Reply → SystemView → Type 0
TellsOf old (Run user asked) reply new = TellsOfRun user asked old reply reply.ended new
TellsOf old (Line user typed) reply new = TellsOfLine user typed.now old reply reply.ended new
TellsOf old (Tick user) reply new = TellsOfTick user old reply reply.ended new
TellsOf old (Deck user cards) reply new = TellsOfDeck user cards.now old reply reply.ended
TellsOf old (Serve user device) reply new = TellsOfServe user device old reply reply.ended new
TellsOf old (Transfer user id to) reply new = TellsOfTransfer user id to old reply reply.ended

-- the reply says what a machine of its own says, or that it is out of frames; how many lines joined
-- the console of the user whom the event names; and which files have got numbers
pub record IsReply (old : SystemView) (step : Step) : Type 0 where
  pub tells : TellsOf old step.event step.reply step.seen
  pub lines : step.reply.lines
      ≡ length (machine_at step.seen (user_of step.event)).output - length
      (machine_at old (user_of step.event)).output
  pub files : step.seen.files ≡ old.files ++ noted_by step.event old step.seen
