-- The files that events of a system close are noted with their entries, and stay as they are.
use Rattle.std.proofs.Common.{◌≡◌, ◌∙◌, ℕ, List, [], ◌∷◌, Option, Some, None, ap}
use Rattle.std.specs.Prelude.{slice_get}
use Rattle.s370_channel.specs.Reading.{as_reached}
use Rattle.cp_core.specs.Forgotten.{GoesOnAs, equipped_with}
use Rattle.cp_core.specs.LineOutcome.{noted_by}
use Rattle.cp_core.specs.Local.{Step as SystemStep, local}
use Rattle.cp_core.specs.System.{SystemView, user_at}
use Rattle.machine_devices.specs.declared.event.Event.{Event}
use Rattle.machine_devices.specs.declared.event.Event.TheVariants as events
use Rattle.cp_core.proofs.Forgotten.{gone_at, user_with}
use Rattle.machine_devices.specs.Equipped.{Equipped}
use Rattle.machine_devices.specs.Notes.{deck_noted, move_noted}
use Rattle.machine_devices.specs.Spooling.{deck_queued}
use Rattle.unit_record.specs.Reader.{DeckValue}
use Rattle.machine_devices.specs.declared.files.FileKind.TheVariants as kinds
use Rattle.machine_devices.proofs.Lost.{FilesStay, full_same, none_closed}
use Rattle.machine_devices.proofs.Written.{closed_files_stay}
use Rattle.sessions.specs.Installed.{Step}
use Rattle.sessions.specs.Noted.{AreFull, HasFull, NotesFiles}
use Rattle.sessions.proofs.Noted.{closed_stay, notes_full}
use Rattle.vm370.specs.Goes.{HasHappened, seen_in}

-- ---- files that still have entries

-- Closed files that still have entries are those of the system that has forgotten others.
pub has_full : (one other : SystemView) → GoesOnAs one other → HasFull (seen_in one) (seen_in other)
has_full one other g user (kinds.Punch place) file found full =
    let gone = gone_at g.gone other.users user in
    let mine : user_at one user ≡ equipped_with gone (user_at other user) =
    ap (λ (s : SystemView). user_at s user) g.same ∙ user_with g.gone other.users user in
    ap (λ (e : Equipped). slice_get e.devices.punched place) mine
    ∙ full_same gone.files.punched (user_at other user).devices.punched place file found full
has_full one other g user (kinds.Printer place) file found full =
    let gone = gone_at g.gone other.users user in
    let mine : user_at one user ≡ equipped_with gone (user_at other user) =
    ap (λ (s : SystemView). user_at s user) g.same ∙ user_with g.gone other.users user in
    ap (λ (e : Equipped). slice_get e.devices.printed place) mine
    ∙ full_same gone.files.printed (user_at other user).devices.printed place file found full
has_full one other g user kinds.Deck file found full = absurd (cc)

-- ---- files that events close

module _ (old new : SystemView) (stay : (user : ℕ) → FilesStay (user_at old user) (user_at new user)) where
  decks_full : (user : ℕ) (cards : List (List ℕ)) → AreFull (seen_in new) (deck_noted user cards)
  decks_full user [] = tt
  decks_full user (card ∷ cards) = (tt, tt)

  moves_full : (user : ℕ) (found : Option DeckValue) → AreFull (seen_in new) (move_noted user found)
  moves_full user None = tt
  moves_full user (Some deck) = (tt, tt)

  noted_full : (event : Event) → AreFull (seen_in new) (noted_by event old new)
  noted_full (events.Run user units) = tt
  noted_full (events.Line user typed) =
      let e = user_at new user in
      notes_full (seen_in new) user (user_at old user) e (stay user)
      (none_closed e.devices.punched, none_closed e.devices.printed)
  noted_full (events.Tick user) = tt
  noted_full (events.Serve user device) = tt
  noted_full (events.Deck user cards) = decks_full user cards.now
  noted_full (events.Transfer user id to) = moves_full to (deck_queued (user_at old user).devices id)

-- The files that an event closes are noted with their entries.
pub notes_files : (one : SystemView) (step : Step SystemView) → HasHappened one step.said step.reply step.left
    → NotesFiles (seen_in one) (seen_in step.left)
notes_files one step h =
    let new = step.left in
    let applied : SystemStep = record { event = h.event; reply = step.reply; seen = new } in
    let stay = λ (user : ℕ). closed_files_stay as_reached (local user one applied) (user_at one user) (user_at new user)
    (h.step.replied.applied user) in
    record {
      more = noted_by h.event one new;
      noted = h.step.replied.reported.files;
      full = noted_full one new stay h.event;
      stay = closed_stay (seen_in one) (seen_in new) stay;
    }
