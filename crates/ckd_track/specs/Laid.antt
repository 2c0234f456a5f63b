-- How a track lies in memory: an entry for each record, and the keys and data of all of them one
-- after another.
use Rattle.std.specs.Prelude.{ℕ, ◌+◌, ◌≡◌, ◌≤◌, List, [], ◌∷◌, length, take, drop, slice_index_or}
use Rattle.ckd_track.specs.declared.entry.CountArea.{CountArea}
use Rattle.ckd_track.specs.Track.{Record, record_cost, capacity}

-- the bytes of all records
abbrev pub total : List CountArea → ℕ
total [] = 0
total (e ∷ es) = e.key + e.content + total es

-- what all entries take of the track
abbrev pub total_cost : List CountArea → ℕ
total_cost [] = 0
total_cost (e ∷ es) = record_cost e.key e.content + total_cost es

-- the record of an entry whose bytes are the first of these
abbrev pub record_of : CountArea → List ℕ → Record
record_of e area = record {
  id = e.id;
  key = take e.key area;
  content = take e.content (drop e.key area);
}

-- the records of entries whose bytes follow one another in an area
abbrev pub records_of : List CountArea → List ℕ → List Record
records_of [] area = []
records_of (e ∷ es) area = record_of e area ∷ records_of es (drop (e.key + e.content) area)

-- the bytes are those of the entries, and the track has room for all
pub record IsLaid (entries : List CountArea) (area : List ℕ) : Type 0 where
  pub whole : length area ≡ total entries
  pub fits : total_cost entries ≤ capacity

-- what stands in for an entry that is not there
abbrev pub no_entry : CountArea
no_entry = record { id = []; key = 0; content = 0 }

-- the entry with this index
abbrev pub entry_at : List CountArea → ℕ → CountArea
entry_at es i = slice_index_or es i no_entry
