-- A track of a disk with count, key and data (GA26-3599, "Track Format"): a home address, and
-- records one after another. What a record takes of the track, and what a track holds, are the
-- project's own numbers (docs/MACHINE.md, "Disks").
use Rattle.std.specs.Prelude.{Bool, ◌&&◌, nat_le, slice_set, slice_index_or, ℕ, ◌+◌, ◌/◌, ◌%◌, ◌==◌}
use Rattle.std.specs.Prelude.{List, [], ◌∷◌, ◌++◌, length, take, if◌then◌else◌}

-- a record: cylinder, head and number as five bytes, its key, and its data
pub record Record : Type 0 where
  pub id : List ℕ
  pub key : List ℕ
  pub content : List ℕ

-- what is on a track: flag, cylinder and head as five bytes, and its records
pub record TrackFormat : Type 0 where
  pub home : List ℕ
  pub records : List Record

-- what a record with so long a key and so much data takes of the track
abbrev pub record_cost : ℕ → ℕ → ℕ
record_cost key content = if key == 0 then 135 + content else 191 + key + content

-- what a record takes of the track
abbrev pub cost_of : Record → ℕ
cost_of r = record_cost (length r.key) (length r.content)

-- what records take of the track together
abbrev pub cost : List Record → ℕ
cost [] = 0
cost (r ∷ rs) = cost_of r + cost rs

-- the eight bytes of a count: the id, the key's length and the data's length
abbrev pub count_bytes : Record → List ℕ
count_bytes r = r.id ++ (length r.key ∷ length r.content / 256 ∷ length r.content % 256 ∷ [])

-- what stands in for a record that is not there
abbrev pub no_record : Record
no_record = record { id = []; key = []; content = [] }

-- the record with this index on a track
abbrev pub record_in : TrackFormat → ℕ → Record
record_in t i = slice_index_or t.records i no_record

-- The track with another record in the place of one.
abbrev pub with_record : TrackFormat → ℕ → Record → TrackFormat
with_record t i r = record { home = t.home; records = slice_set t.records i r }

-- A record after the first i; all later ones are erased.
abbrev pub with_last : TrackFormat → ℕ → Record → TrackFormat
with_last t i r = record { home = t.home; records = take i t.records ++ r ∷ [] }

-- what a track holds
abbrev pub capacity : ℕ
capacity = 13165

-- whether a track has room for a record after its first i; a key's length is one byte
abbrev pub has_room : TrackFormat → ℕ → ℕ → ℕ → Bool
has_room t i key content =
    nat_le key 255 && nat_le (cost (take i t.records) + record_cost key content) capacity
