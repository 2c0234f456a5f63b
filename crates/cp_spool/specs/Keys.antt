-- How files are kept: in a slab, and of each user the keys of his decks and of his closed files.
use Rattle.std.specs.Prelude.{ℕ, ◌-◌, ◌+◌, ◌<◌, ◌≡◌, ◌≢◌, Bool, true, false, List, [], ◌∷◌, ◌++◌}
use Rattle.std.specs.Prelude.{length, map, remove, slice_index_or, slice_set, Option, Some, None}
use Rattle.std.specs.Prelude.{unwrap_or, IsSomeAnd}
use Rattle.slab.specs.Slab.{Slab, get}
use Rattle.unit_record.specs.declared.output.Target.TheVariants as targets
use Rattle.unit_record.specs.Output.{FileValue}
use Rattle.unit_record.specs.Reader.{DeckValue}
use Rattle.cp_spool.specs.declared.queue.Waiting.{Waiting}
use Rattle.cp_spool.specs.File.{SpoolFileValue, Cards, cards_in, closed_file, is_deck}
use Rattle.cp_spool.specs.Queues.{UserFiles}

-- the decks of one user's reader, how much was read of the first, the keys of what his punch and
-- his printer closed, and for how many more of these there is room
pub record QueueKeys : Type 0 where
  pub decks : List Waiting
  pub place : Option ℕ
  pub punched : List ℕ
  pub printed : List ℕ
  pub punch_room : ℕ
  pub print_room : ℕ

-- a user without files
abbrev pub no_keys : QueueKeys
no_keys = record {
  decks = [];
  place = None;
  punched = [];
  printed = [];
  punch_room = 0;
  print_room = 0;
}

-- what stands in for a file that is not there
abbrev pub no_file : SpoolFileValue
no_file = record { target = targets.System; contents = Cards [] }

-- the file with this key
abbrev pub file_at : Slab SpoolFileValue → ℕ → SpoolFileValue
file_at files key = unwrap_or (get files key) no_file

-- ---- what the keys stand for

-- a deck that waits in a reader
abbrev pub deck_at : Slab SpoolFileValue → Waiting → DeckValue
deck_at files w = record {
  label = w.label;
  sender = w.sender;
  cards = cards_in ((file_at files w.key).contents);
}

-- a closed file
abbrev pub closed_at : Slab SpoolFileValue → ℕ → FileValue
closed_at files key = closed_file (file_at files key)

-- the files of a user
abbrev pub user_files : Slab SpoolFileValue → QueueKeys → UserFiles
user_files files q = record {
  decks = map (deck_at files) q.decks;
  place = q.place;
  punched = map (closed_at files) q.punched;
  printed = map (closed_at files) q.printed;
}

-- ---- what comes and goes

-- the keys of a user's files
abbrev pub queue_of : List QueueKeys → ℕ → QueueKeys
queue_of queues user = slice_index_or queues user no_keys

-- the keys of all users with others for one
abbrev pub with_queue : ℕ → QueueKeys → List QueueKeys → List QueueKeys
with_queue user queue queues = slice_set queues user queue

-- the keys with one more deck at the end
abbrev pub with_waiting : Waiting → QueueKeys → QueueKeys
with_waiting w q = record q { decks = q.decks ++ w ∷ [] }

-- the keys without one of the decks
abbrev pub without_waiting : ℕ → QueueKeys → QueueKeys
without_waiting index q = record q { decks = remove q.decks index }

-- the keys with one more closed punch file
abbrev pub with_punched_key : ℕ → QueueKeys → QueueKeys
with_punched_key key q = record q { punched = q.punched ++ key ∷ []; punch_room = q.punch_room - 1 }

-- the keys with one more closed printer file
abbrev pub with_printed_key : ℕ → QueueKeys → QueueKeys
with_printed_key key q = record q { printed = q.printed ++ key ∷ []; print_room = q.print_room - 1 }

-- ---- what is always so

-- the keys of a user's decks
abbrev pub keys_in : QueueKeys → List ℕ
keys_in q = map (λ (w : Waiting). w.key) q.decks

-- whether it is a deck that was given
abbrev pub is_given : Option SpoolFileValue → Bool
is_given (Some file) = is_deck file.contents
is_given None = false

-- a deck that was given is in the reader for which it is, and nowhere else
abbrev pub StandsWith : ℕ → SpoolFileValue → Type 0
StandsWith user file = is_deck file.contents ≡ true → file.target ≡ targets.User user

-- the file was made by a punch or a printer
abbrev pub IsMade : SpoolFileValue → Type 0
IsMade file = is_deck file.contents ≡ false

-- each of these keys has such a file
abbrev pub AllAt : Slab SpoolFileValue → (SpoolFileValue → Type 0) → List ℕ → Type 0
AllAt files P keys = (i : ℕ) → i < length keys → IsSomeAnd (get files (slice_index_or keys i 0)) P

-- none of these keys is this one
abbrev pub Lacks : List ℕ → ℕ → Type 0
Lacks keys key = (i : ℕ) → i < length keys → slice_index_or keys i 0 ≢ key

-- no deck that was given is there twice
abbrev pub Once : Slab SpoolFileValue → List ℕ → Type 0
Once files keys = (i j : ℕ) → i < length keys → j < length keys
    → slice_index_or keys i 0 ≡ slice_index_or keys j 0
    → is_given (get files (slice_index_or keys i 0)) ≡ true → i ≡ j

-- the keys of a user lead to files of their kind, and no deck is there twice
pub record IsSoundOf (files : Slab SpoolFileValue) (user : ℕ) (q : QueueKeys) : Type 0 where
  pub waiting : AllAt files (StandsWith user) (keys_in q)
  pub once : Once files (keys_in q)
  pub punched : AllAt files IsMade q.punched
  pub printed : AllAt files IsMade q.printed

-- so do the keys of each user
abbrev pub AreSound : Slab SpoolFileValue → List QueueKeys → Type 0
AreSound files queues = (user : ℕ) → IsSoundOf files user (queue_of queues user)

-- the keys of what a user's punch closed, or of what his printer closed
abbrev pub closed_keys : Bool → QueueKeys → List ℕ
closed_keys true q = q.punched
closed_keys false q = q.printed

-- each closed file has a key of its own: no other user, no other kind and no other index has it
abbrev pub AreApart : List QueueKeys → Type 0
AreApart queues = (user other : ℕ) (kind like : Bool) (i j : ℕ)
    → i < length (closed_keys kind (queue_of queues user))
    → j < length (closed_keys like (queue_of queues other))
    → slice_index_or (closed_keys kind (queue_of queues user)) i 0
    ≡ slice_index_or (closed_keys like (queue_of queues other)) j 0
    → (user ≡ other) × (kind ≡ like) × (i ≡ j)

-- what is always so of all keys
abbrev pub IsSound : Slab SpoolFileValue → List QueueKeys → Type 0
IsSound files queues = AreSound files queues × AreApart queues
