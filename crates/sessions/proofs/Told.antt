-- Whose event was said, and what is reported of one that was answered.
use Rattle.std.proofs.Common.{◌≡◌, ℕ, List, [], ◌∷◌, ap, refl, ◌∙◌}
use Rattle.machine_devices.specs.Events.{user_of}
use Rattle.machine_devices.specs.declared.event.Event.{Event}
use Rattle.machine_devices.specs.declared.event.Event.TheVariants as events
use Rattle.machine_devices.specs.declared.reply.Reply.{Reply}
use Rattle.session_script.specs.Script.{EventValue}
use Rattle.session_script.specs.Users.{KnownUser, names_of as names_in}
use Rattle.sessions.specs.Installed.{Installation, as_said, names_of, user_at}
use Rattle.sessions.specs.Schedule.{Applies, acts_of, user_said}
use Rattle.sessions.specs.Transcript.{ended, reply_lines, step_lines}
use Rattle.sessions.specs.declared.schedule.Detail.{Detail}

-- an event is one of the user whom it names
pub user_same : (event : Event) → user_of event ≡ user_said (as_said event)
user_same (events.Run user units) = refl
user_same (events.Line user text) = refl
user_same (events.Tick user) = refl
user_same (events.Serve user device) = refl
user_same (events.Deck user cards) = refl
user_same (events.Transfer user id to) = refl

-- an event that happens is the one act of what was said
pub acts_same : (event : Event) → acts_of (as_said event) ≡ Applies (as_said event) ∷ []
acts_same (events.Run user units) = refl
acts_same (events.Line user text) = refl
acts_same (events.Tick user) = refl
acts_same (events.Serve user device) = refl
acts_same (events.Deck user cards) = refl
acts_same (events.Transfer user id to) = refl

-- the lines of a reply to an event that was said are those of the step
pub told_alike : {W : Type 0} (i : Installation W) (detail : Detail) (what : EventValue) (old new : W) (reply : Reply)
    (user : ℕ) (text : List ℕ) → user ≡ user_said what → (i.seen new).users ≡ (i.seen old).users
    → text ≡ ended (reply_lines detail (names_of (i.seen new)) user what
    (user_at (i.seen new) user).devices.reader.decks (user_at (i.seen new) user).machine.output reply)
    → text ≡ ended (step_lines i detail (names_of (i.seen old)) (record { said = what; reply = reply; left = new }))
told_alike i detail what old new reply user text is same e =
    let seen = i.seen new in
    e
    ∙ (ap (λ (users : List KnownUser).
    ended (reply_lines detail (names_in users) user what (user_at seen user).devices.reader.decks
    (user_at seen user).machine.output reply)) same
    ∙ ap (λ (u : ℕ). ended (reply_lines detail (names_of (i.seen old)) u what (user_at seen u).devices.reader.decks
    (user_at seen u).machine.output reply)) is)
