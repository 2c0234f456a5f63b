-- A machine with its devices, and nobody else: its user is `BARE` (docs/MACHINE.md,
-- docs/COMMANDS.md).
use Rattle.std.specs.Prelude.{ℕ, ◌≡◌, Bool, List, [], ◌∷◌, ◌++◌, codes, length, Option, Some, None}
use Rattle.s370_channel.specs.Reading.{as_reached}
use Rattle.unit_record.specs.declared.reader.Sender.TheVariants as senders
use Rattle.unit_record.specs.Reader.{DeckValue}
use Rattle.machine_devices.specs.declared.files.FileNote.{FileNote}
use Rattle.machine_devices.specs.declared.reply.Reply.{Reply}
use Rattle.machine_devices.specs.Coming.{coming_of, comes_by_line}
use Rattle.machine_devices.specs.Equipped.{Equipped}
use Rattle.machine_devices.specs.Life.{Lives}
use Rattle.machine_devices.specs.Notes.{closed_by, deck_noted, move_noted, next_file}
use Rattle.machine_devices.specs.Replies.{IsLineTold}
use Rattle.machine_devices.specs.Spooling.{deck_queued, renumbered, with_deck_purged}
use Rattle.machine_devices.specs.Spooling.{with_deck_queued}
use Rattle.machine_devices.specs.UserDirectory.{UserDirectory, is_logged_on}

-- the machine with its devices, and what each file was so far: the first has number 1
pub record Bare : Type 0 where
  pub equipped : Equipped
  pub files : List FileNote

-- the name of the only user
abbrev pub bare : List ℕ
bare = codes "BARE"

-- its user is all that is known of others
abbrev pub alone : Bool → UserDirectory
alone on = record { names = bare ∷ []; own = bare; on = on ∷ [] }

-- the users whom the machine knows: its own
abbrev pub world_of : Bare → UserDirectory
world_of i = alone (is_logged_on i.equipped.machine.mode)

-- ---- a line

-- as a machine with devices answers it in this small world of one user, to whom then comes what it
-- delivers; and the files that it closed have got numbers
pub record IsTyped (typed : List ℕ) (old : Bare) (reply : Reply) (new : Bare) : Type 0 where
  pub tells : IsLineTold (world_of old) 1 (next_file old.files) typed old.equipped reply
  pub come : let before = length old.equipped.devices.punched in
      Lives as_reached (coming_of (comes_by_line 0 before tells.answered) reply.delivered)
      tells.answered new.equipped
  pub files : new.files ≡ old.files ++ closed_by 0 old.equipped tells.answered

-- ---- a deck of the operator

-- it has the number after the last; no cards are no deck
abbrev pub with_deck : List (List ℕ) → Bare → Bare
with_deck [] i = i
with_deck (card ∷ cards) i =
    let deck : DeckValue = record {
      label = next_file i.files;
      sender = senders.System;
      cards = card ∷ cards;
    } in
    record {
      equipped = record i.equipped { devices = with_deck_queued i.equipped.devices deck };
      files = i.files ++ deck_noted 0 (card ∷ cards);
    }

-- ---- a deck that the operator moves from its reader to the same reader

-- the machine with the deck of this number, which is there, at the end of the queue
abbrev pub deck_moved_on : ℕ → Option DeckValue → Bare → Bare
deck_moved_on id None i = i
deck_moved_on id (Some deck) i =
    let left = with_deck_purged i.equipped.devices id in
    record {
      equipped = record
          i.equipped {
            devices = with_deck_queued left (renumbered (next_file i.files) (Some deck));
          };
      files = i.files ++ move_noted 0 (Some deck);
    }

-- it has the number after the last; a deck that is not queued is not moved
abbrev pub with_deck_moved : ℕ → Bare → Bare
with_deck_moved id i = deck_moved_on id (deck_queued i.equipped.devices id) i
