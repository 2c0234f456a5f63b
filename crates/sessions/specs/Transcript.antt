-- The lines of an event and its reply.
use Rattle.std.specs.Prelude.{ℕ, ◌-◌, Bool, true, false, List, [], ◌∷◌, ◌++◌, ◌≡◌, ◌≢◌, All, codes}
use Rattle.std.specs.Prelude.{drop, length, map, Option, Some, None}
use Rattle.std.specs.Fmt.{decimal}
use Rattle.s370_num.specs.Address.{device_text}
use Rattle.s370_intr.specs.declared.next.Reason.{Reason}
use Rattle.s370_intr.specs.declared.next.Reason.TheVariants as reasons
use Rattle.s370_intr.specs.declared.run.Ran.{Ran as RanUnits}
use Rattle.text_words.specs.Lines.{lines_of}
use Rattle.user_names.specs.Users.{name_of}
use Rattle.cp_console.specs.Responses.{text_of}
use Rattle.cp_console.specs.ConsoleLine.{characters_of}
use Rattle.unit_record.specs.Reader.{DeckValue}
use Rattle.machine_devices.specs.declared.reply.UserResponse.{UserResponse}
use Rattle.machine_devices.specs.declared.reply.UserResponse.TheVariants.{Nothing, Said, Files}
use Rattle.machine_devices.specs.Files.{file_lines}
use Rattle.machine_devices.specs.declared.reply.Ended.{Ended}
use Rattle.machine_devices.specs.declared.reply.Ended.TheVariants.{Ran, Served, Done, FramesOut}
use Rattle.machine_devices.specs.declared.reply.Delivered.{Delivered}
use Rattle.machine_devices.specs.declared.reply.Delivery.{Delivery}
use Rattle.machine_devices.specs.declared.reply.Delivery.TheVariants as deliveries
use Rattle.machine_devices.specs.declared.reply.Reply.{Reply}
use Rattle.session_script.specs.Script.{EventValue as Asked}
use Rattle.session_script.specs.Script as asked
use Rattle.sessions.specs.Installed.{Installation, Step, machine_at, user_at}
use Rattle.sessions.specs.Schedule.{Entry, Answered, Dealt, Passed, Idle, user_said}
use Rattle.sessions.specs.declared.schedule.Detail.{Detail}
use Rattle.sessions.specs.declared.schedule.Detail.TheVariants as details

-- `u: text`
abbrev pub told_line : List ℕ → List ℕ → List ℕ
told_line name text = name ++ codes ": " ++ text

-- a line for each deck of a user's reader, in their order
abbrev pub queue_lines : List (List ℕ) → List ℕ → List DeckValue → List (List ℕ)
queue_lines names name decks = map (told_line name) (file_lines names decks)

-- the lines at the user's terminal, where something was said to him, whose reader has these decks
abbrev pub said_lines : List (List ℕ) → List ℕ → List DeckValue → UserResponse → List (List ℕ)
said_lines names name decks Nothing = []
said_lines names name decks (Said response) = told_line name (text_of response) ∷ []
said_lines names name decks Files = queue_lines names name decks

-- a message is at its receiver's terminal, and a deck at nobody's
abbrev pub delivery_lines : List (List ℕ) → ℕ → Delivery → List (List ℕ)
delivery_lines names to (deliveries.Deck number) = []
delivery_lines names to (deliveries.Message line) =
    told_line (name_of names to) (characters_of line) ∷ []

-- the line of what was delivered, if something was
abbrev pub delivered_lines : List (List ℕ) → Option Delivered → List (List ℕ)
delivered_lines names None = []
delivered_lines names (Some delivered) = delivery_lines names delivered.to delivered.what

-- why a run ended, in one word
abbrev pub reason_word : Reason → List ℕ
reason_word reasons.Count = codes "COUNT"
reason_word reasons.Wait = codes "WAIT"
reason_word reasons.DisabledWait = codes "DISABLEDWAIT"
reason_word reasons.EcMode = codes "ECMODE"
reason_word reasons.Stopped = codes "STOPPED"
reason_word reasons.FramesOut = codes "FRAMES"

-- `= u units REASON`
abbrev pub ran_line : List ℕ → RanUnits → List ℕ
ran_line name ran = codes "= " ++ name ++ codes " " ++ decimal ran.units ++ codes " "
    ++ reason_word ran.reason

-- `= u FRAMES`
abbrev pub frames_line : List ℕ → List ℕ
frames_line name = codes "= " ++ name ++ codes " FRAMES"

-- `= u SERVED addr`, or `= u IDLE addr` where the device was not working
abbrev pub served_word : Bool → List ℕ
served_word true = codes " SERVED "
served_word false = codes " IDLE "

-- the line of a serve
abbrev pub served_line : List ℕ → ℕ → Bool → List ℕ
served_line name device done = codes "= " ++ name ++ served_word done ++ device_text device

-- of what was said to be a serve
abbrev pub served_lines : List ℕ → Asked → Bool → List (List ℕ)
served_lines name (asked.Serve user device) done = served_line name device done ∷ []
served_lines name (asked.Run user units) done = []
served_lines name (asked.Line user typed) done = []
served_lines name (asked.Tick user) done = []
served_lines name (asked.Deck user cards) done = []
served_lines name (asked.Transfer user id to) done = []
served_lines name (asked.Auto turns) done = []

-- a run and a serve are reported, and any other event only where it was out of frames
abbrev pub ending_lines : List ℕ → Asked → Ended → List (List ℕ)
ending_lines name event (Ran ran) = ran_line name ran ∷ []
ending_lines name event (Served done) = served_lines name event done
ending_lines name event Done = []
ending_lines name event FramesOut = frames_line name ∷ []

-- where ends are left out: that it is out of frames
abbrev pub lacking_lines : List ℕ → RanUnits → Reason → List (List ℕ)
lacking_lines name ran reasons.FramesOut = ran_line name ran ∷ []
lacking_lines name ran reasons.Count = []
lacking_lines name ran reasons.Wait = []
lacking_lines name ran reasons.DisabledWait = []
lacking_lines name ran reasons.EcMode = []
lacking_lines name ran reasons.Stopped = []

-- the lines of an ending if only shortages are printed
abbrev pub scant_lines : List ℕ → Ended → List (List ℕ)
scant_lines name (Ran ran) = lacking_lines name ran ran.reason
scant_lines name (Served done) = []
scant_lines name Done = []
scant_lines name FramesOut = frames_line name ∷ []

-- the lines of an ending
abbrev pub end_lines : Detail → List ℕ → Asked → Ended → List (List ℕ)
end_lines details.Whole name event ended = ending_lines name event ended
end_lines details.Terminals name event ended = scant_lines name ended

-- the last so many of the lines that a console has printed
abbrev pub last_lines : ℕ → List (List ℕ) → List (List ℕ)
last_lines count output = drop (length output - count) output

-- what a program has written at its console while it was served: the lines that have joined it.
-- What joins it by any other event is said or delivered
abbrev pub written_lines : List ℕ → ℕ → List (List ℕ) → Ended → List (List ℕ)
written_lines name count output (Served done) = map (told_line name) (last_lines count output)
written_lines name count output (Ran ran) = []
written_lines name count output Done = []
written_lines name count output FramesOut = []

-- what was said to the user whom the event names, whose reader has these decks, what has been
-- written at his console, what is at another's terminal, and then how the event ended
abbrev pub reply_lines : Detail → List (List ℕ) → ℕ → Asked → List DeckValue → List (List ℕ) → Reply
    → List (List ℕ)
reply_lines detail names user event decks output reply =
    let name = name_of names user in
    said_lines names name decks reply.said
    ++ written_lines name reply.lines output reply.ended
    ++ delivered_lines names reply.delivered
    ++ end_lines detail name event reply.ended

-- the lines of an event that was answered so
abbrev pub step_lines : {W : Type 0} → Installation W → Detail → List (List ℕ) → Step W
    → List (List ℕ)
step_lines i detail names step =
    let user = user_said step.said in
    let seen = i.seen step.left in
    reply_lines detail names user step.said (user_at seen user).devices.reader.decks
    (machine_at seen user).output step.reply

-- `= IDLE`
abbrev pub idle_line : List ℕ
idle_line = codes "= IDLE"

-- the line of a turn that had nothing to do
abbrev pub idle_lines : Detail → List (List ℕ)
idle_lines details.Whole = idle_line ∷ []
idle_lines details.Terminals = []

-- those of half a turn that nobody had, where the turn had a slice or had none
abbrev pub passed_lines : Detail → Bool → List (List ℕ)
passed_lines detail true = []
passed_lines detail false = idle_lines detail

-- the lines of an event and its reply, or of a turn of which nobody had either half
abbrev pub entry_lines : {W : Type 0} → Installation W → Detail → List (List ℕ) → Entry W
    → List (List ℕ)
entry_lines i detail names (Answered step) = step_lines i details.Whole names step
entry_lines i detail names (Dealt step) = step_lines i detail names step
entry_lines i detail names Passed = []
entry_lines i detail names Idle = idle_lines detail

-- lines as bytes, each ended by LF
abbrev pub ended : List (List ℕ) → List ℕ
ended [] = []
ended (line ∷ lines) = line ++ 10 ∷ ended lines

-- the transcript of what was done
abbrev pub transcript : {W : Type 0} → Installation W → Detail → List (List ℕ) → List (Entry W)
    → List ℕ
transcript i detail names [] = []
transcript i detail names (entry ∷ entries) = ended (entry_lines i detail names entry)
    ++ transcript i detail names entries

-- no LF is in a line
abbrev pub HasNoEnd : List ℕ → Type 0
HasNoEnd line = All (λ c. c ≢ 10) line

-- bytes of lines that hold no LF are these lines and no others
abbrev pub CutsBack : Type 0
CutsBack = (lines : List (List ℕ)) → All HasNoEnd lines → lines_of (ended lines) ≡ lines
