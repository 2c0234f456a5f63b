-- Closed files that have lost their entries, which were written elsewhere.
use Rattle.std.specs.Prelude.{ℕ, zero, suc, ◌≡◌, ◌==◌, ◌⊎◌, Bool, List, [], ◌∷◌, map, slice_get}
use Rattle.std.specs.Prelude.{Option, Some}
use Rattle.std.specs.Prelude.{None, IsSomeAnd}
use Rattle.std.specs.List.{list_any}
use Rattle.unit_record.specs.Output.{FileValue}
use Rattle.cp_spool.specs.declared.queue.Waiting.{Waiting}
use Rattle.cp_spool.specs.File.{ContentsValue, Cards, Entries, SpoolFileValue, card_of_entry}
use Rattle.cp_spool.specs.Keys.{QueueKeys}
use Rattle.cp_spool.specs.Queues.{UserFiles, files_of, with_files}

-- ---- a file

-- what a punch or a printer made, without its entries; a deck that was given keeps its cards
abbrev pub emptied_contents : ContentsValue → ContentsValue
emptied_contents (Cards cards) = Cards cards
emptied_contents (Entries entries) = Entries []

-- the spool file without its entries
abbrev pub emptied : SpoolFileValue → SpoolFileValue
emptied file = record file { contents = emptied_contents file.contents }

-- the closed file without its entries
abbrev pub without_entries : FileValue → FileValue
without_entries file = record file { entries = [] }

-- ---- the files of all users

-- closed files of which the one of this index has lost its entries, and all others are as they were
abbrev pub emptied_at : ℕ → List FileValue → List FileValue
emptied_at index [] = []
emptied_at zero (file ∷ files) = without_entries file ∷ files
emptied_at (suc index) (file ∷ files) = file ∷ emptied_at index files

-- a user's files, of which the one of this index that his punch closed has lost its entries
abbrev pub without_punched : ℕ → UserFiles → UserFiles
without_punched index f = record f { punched = emptied_at index f.punched }

-- a user's files, of which the one of this index that his printer closed has lost its entries
abbrev pub without_printed : ℕ → UserFiles → UserFiles
without_printed index f = record f { printed = emptied_at index f.printed }

-- all files are as they were, or this user's are what this makes of them, and all others are as
-- they were
abbrev pub LosesAtMost : ℕ → (UserFiles → UserFiles) → List UserFiles → List UserFiles → Type 0
LosesAtMost user loss old new = (new ≡ old) ⊎ (new ≡ with_files user (loss (files_of old user)) old)

-- a reader has a deck of these cards
abbrev pub HasDeck : List UserFiles → List (List ℕ) → Type 0
HasDeck users cards = (reader : ℕ) × (place : ℕ)
    × IsSomeAnd (slice_get (files_of users reader).decks place) (λ deck. deck.cards ≡ cards)

-- a file has no entries, unless a reader has them as a deck
abbrev pub IsGone : List UserFiles → Option FileValue → Type 0
IsGone users None = Unit {0}
IsGone users (Some file) =
    (file.entries ≡ []) ⊎ HasDeck users (map card_of_entry file.entries)

-- ---- keys

-- whether a deck of this reader has the file of this key
abbrev pub has_key : ℕ → QueueKeys → Bool
has_key key q = list_any (λ (w : Waiting). w.key == key) q.decks
