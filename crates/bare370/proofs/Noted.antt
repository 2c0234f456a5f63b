-- The files that events of a single machine close are noted with their entries, and stay as they are.
use Rattle.std.proofs.Common.{◌≡◌, ◌∙◌, ℕ, zero, suc, List, [], ◌∷◌, ◌++◌, ap, append-nil}
use Rattle.std.proofs.Common.{length, refl, subst, sym, Option, Some, None}
use Rattle.std.specs.Prelude.{slice_get}
use Rattle.s370_channel.specs.Reading.{as_reached}
use Rattle.bare_installation.specs.Bare.{Bare, IsTyped, deck_moved_on, with_deck, world_of}
use Rattle.bare_installation.specs.Life.{IsAnswer, IsDone, IsGiven, IsMoved, IsRun, IsService, IsTicked}
use Rattle.machine_devices.specs.declared.event.Event.{Event}
use Rattle.machine_devices.specs.declared.event.Event.TheVariants as events
use Rattle.machine_devices.specs.Coming.{comes_by_line, coming_of}
use Rattle.machine_devices.specs.Devices.{DevicesValue}
use Rattle.machine_devices.specs.Equipped.{Equipped}
use Rattle.machine_devices.specs.Life.{Line as Types, Serve as Serves}
use Rattle.machine_devices.specs.Notes.{closed_by, deck_noted, move_noted}
use Rattle.machine_devices.specs.Spooling.{deck_queued}
use Rattle.unit_record.specs.Reader.{DeckValue}
use Rattle.machine_devices.specs.declared.files.FileKind.TheVariants as kinds
use Rattle.machine_devices.specs.declared.files.FileNote.{FileNote}
use Rattle.machine_devices.specs.declared.reply.Ended.{Ended}
use Rattle.machine_devices.specs.declared.reply.Ended.TheVariants.{Ran, Served, Done, FramesOut}
use Rattle.machine_devices.specs.declared.reply.Reply.{Reply}
use Rattle.machine_devices.proofs.Lost.{FilesStay, full_same, none_closed}
use Rattle.machine_devices.proofs.Written.{closed_files_stay, leaves_stay}
use Rattle.sessions.specs.Installed.{Step, user_at}
use Rattle.sessions.specs.Noted.{AreFull, HasFull, NotesFiles}
use Rattle.sessions.proofs.Noted.{closed_stay, notes_full}
use Rattle.bare370.specs.Goes.{Alone, GoesOnAs, HasHappened, seen_in}

-- ---- files that still have entries

-- the only user's machine
abbrev mine : Alone → Equipped
mine a = a.machine.equipped

-- Closed files that still have entries are those of the machine that has forgotten others.
pub has_full : (one other : Alone) → GoesOnAs one other → HasFull (seen_in one) (seen_in other)
has_full one other g zero (kinds.Punch place) file found full =
    ap (λ (b : Bare). slice_get b.equipped.devices.punched place) g.machine.same
    ∙ full_same g.machine.lost.punched (mine other).devices.punched place file found full
has_full one other g zero (kinds.Printer place) file found full =
    ap (λ (b : Bare). slice_get b.equipped.devices.printed place) g.machine.same
    ∙ full_same g.machine.lost.printed (mine other).devices.printed place file found full
has_full one other g zero kinds.Deck file found full = absurd (cc)
has_full one other g (suc user) (kinds.Punch place) file found full = found
has_full one other g (suc user) (kinds.Printer place) file found full = found
has_full one other g (suc user) kinds.Deck file found full = absurd (cc)

-- ---- files that events close

same_devices : (old new : Equipped) → new.devices ≡ old.devices → FilesStay old new
same_devices old new same =
    subst (λ (d : DevicesValue). FilesStay old (record new { devices = d })) (sym same)
    (none_closed old.devices.punched, none_closed old.devices.printed)

-- what an event notes of a machine
record Notes (old new : Bare) (a : Alone) : Type 0 where
  stay : FilesStay old.equipped new.equipped
  more : List FileNote
  noted : new.files ≡ old.files ++ more
  full : AreFull (seen_in a) more

module _ (a : Alone) where
  abbrev with_machine : Bare → Alone
  with_machine b = record a { machine = b }

  nothing : (old new : Bare) → FilesStay old.equipped new.equipped → new.files ≡ old.files
      → Notes old new (with_machine new)
  nothing old new stay same =
      record { stay = stay; more = []; noted = same ∙ sym (append-nil old.files); full = tt }

  run_notes : (count : ℕ) (old new : Bare) (reply : Reply) (ended : Ended) → IsRun count old reply ended new
      → Notes old new (with_machine new)
  run_notes count old new reply (Ran ran) h = nothing old new (same_devices old.equipped new.equipped h.1) h.3
  run_notes count old new reply (Served done) h = absurd h
  run_notes count old new reply Done h = absurd h
  run_notes count old new reply FramesOut h = absurd h

  typed_notes : (typed : List ℕ) (old new : Bare) (reply : Reply) → IsTyped typed old reply new
      → Notes old new (with_machine new)
  typed_notes typed old new reply h =
      let e = old.equipped in
      let answered = h.tells.answered in
      let line = Types (world_of old) typed in
      let coming = coming_of (comes_by_line 0 (length e.devices.punched) answered) reply.delivered in
      let first = leaves_stay as_reached line e answered (h.tells.reported, h.tells.line) in
      let rest = closed_files_stay as_reached coming answered new.equipped h.come in
      record {
        stay = closed_files_stay as_reached (line ∷ coming) e new.equipped
            (answered, (h.tells.reported, h.tells.line), h.come);
        more = closed_by 0 e answered;
        noted = h.files;
        full = notes_full (seen_in (with_machine new)) 0 e answered first rest;
      }

  answer_notes : (typed : List ℕ) (old new : Bare) (reply : Reply) (ended : Ended) → IsAnswer typed old reply ended new
      → Notes old new (with_machine new)
  answer_notes typed old new reply Done h = typed_notes typed old new reply h
  answer_notes typed old new reply (Ran ran) h = absurd h
  answer_notes typed old new reply (Served done) h = absurd h
  answer_notes typed old new reply FramesOut h = absurd h

  service_notes : (device : ℕ) (old new : Bare) (reply : Reply) (ended : Ended)
      → IsService device old reply ended new → Notes old new (with_machine new)
  service_notes device old new reply (Served done) h =
      nothing old new (leaves_stay as_reached (Serves device) old.equipped new.equipped (done, h.0)) h.1
  service_notes device old new reply (Ran ran) h = absurd h
  service_notes device old new reply Done h = absurd h
  service_notes device old new reply FramesOut h = absurd h

  tick_notes : (old new : Bare) (reply : Reply) (ended : Ended) → IsTicked old reply ended new
      → Notes old new (with_machine new)
  tick_notes old new reply Done h = nothing old new (same_devices old.equipped new.equipped h.1) h.3
  tick_notes old new reply (Ran ran) h = absurd h
  tick_notes old new reply (Served done) h = absurd h
  tick_notes old new reply FramesOut h = absurd h

  deck_notes : (cards : List (List ℕ)) (old : Bare)
      → Notes old (with_deck cards old) (with_machine (with_deck cards old))
  deck_notes [] old =
      let d = old.equipped.devices in nothing old old (none_closed d.punched, none_closed d.printed) refl
  deck_notes (card ∷ cards) old =
      let d = old.equipped.devices in
      record {
        stay = (none_closed d.punched, none_closed d.printed);
        more = deck_noted 0 (card ∷ cards);
        noted = refl;
        full = (tt, tt);
      }

  given_notes : (cards : List (List ℕ)) (old new : Bare) (reply : Reply) (ended : Ended)
      → IsGiven cards old reply ended new → Notes old new (with_machine new)
  given_notes cards old new reply Done h =
      subst (λ (b : Bare). Notes old b (with_machine b)) (sym h.0) (deck_notes cards old)
  given_notes cards old new reply (Ran ran) h = absurd h
  given_notes cards old new reply (Served done) h = absurd h
  given_notes cards old new reply FramesOut h = absurd h

  move_notes : (id : ℕ) (found : Option DeckValue) (old : Bare)
      → Notes old (deck_moved_on id found old) (with_machine (deck_moved_on id found old))
  move_notes id None old =
      let d = old.equipped.devices in nothing old old (none_closed d.punched, none_closed d.printed) refl
  move_notes id (Some deck) old =
      let d = old.equipped.devices in
      record {
        stay = (none_closed d.punched, none_closed d.printed);
        more = move_noted 0 (Some deck);
        noted = refl;
        full = (tt, tt);
      }

  transfer_notes : (id : ℕ) (old new : Bare) (reply : Reply) (ended : Ended) → IsMoved id old reply ended new
      → Notes old new (with_machine new)
  transfer_notes id old new reply Done h =
      subst (λ (b : Bare). Notes old b (with_machine b)) (sym h.0)
      (move_notes id (deck_queued old.equipped.devices id) old)
  transfer_notes id old new reply (Ran ran) h = absurd h
  transfer_notes id old new reply (Served done) h = absurd h
  transfer_notes id old new reply FramesOut h = absurd h

  done_notes : (event : Event) (old new : Bare) (reply : Reply) → IsDone old event reply new
      → Notes old new (with_machine new)
  done_notes (events.Run user count) old new reply h = run_notes count old new reply reply.ended h
  done_notes (events.Line user typed) old new reply h = answer_notes typed.now old new reply reply.ended h
  done_notes (events.Serve user device) old new reply h = service_notes device old new reply reply.ended h
  done_notes (events.Tick user) old new reply h = tick_notes old new reply reply.ended h
  done_notes (events.Deck user cards) old new reply h = given_notes cards.now old new reply reply.ended h
  done_notes (events.Transfer user id to) old new reply h = transfer_notes id old new reply reply.ended h

each_stays : (old new : Alone) → FilesStay (mine old) (mine new) → (user : ℕ)
    → FilesStay (user_at (seen_in old) user) (user_at (seen_in new) user)
each_stays old new stay zero = stay
each_stays old new stay (suc user) = (none_closed [], none_closed [])

-- The files that an event closes are noted with their entries.
pub notes_files : (one : Alone) (step : Step Alone) → HasHappened one step.said step.reply step.left
    → NotesFiles (seen_in one) (seen_in step.left)
notes_files one step h =
    let new = step.left in
    let notes = done_notes new h.event one.machine new.machine step.reply h.applied.does in
    record {
      more = notes.more;
      noted = notes.noted;
      full = notes.full;
      stay = closed_stay (seen_in one) (seen_in new) (each_stays one new notes.stay);
    }
