-- How a unit finds records: the next one, past index points, and over the heads of the cylinder.
use Rattle.std.specs.Prelude.{ℕ, zero, suc, ◌+◌, ◌-◌, ◌==◌, Bool, nat_le, if◌then◌else◌, List, []}
use Rattle.std.specs.Prelude.{◌∷◌, drop, Option, None, Some, bit_and}
use Rattle.ckd_track.specs.Track.{Record}
use Rattle.ckd_volume.specs.declared.parts.Orientation.{Orientation}
use Rattle.ckd_volume.specs.declared.parts.Orientation.TheVariants.{Index, Gap, Count, Key}
use Rattle.ckd_volume.specs.declared.parts.Found.{Found}
use Rattle.ckd_volume.specs.declared.parts.Found.TheVariants.{There, Lost}
use Rattle.ckd_volume.specs.Front.{Front, Cylinder, records_at}

-- Second sense byte: no record found, file protected, end of cylinder.
abbrev pub no_record_found : ℕ
no_record_found = 0x08

-- the second sense byte file protected
abbrev pub file_protected : ℕ
file_protected = 0x04

-- the second sense byte end of cylinder
abbrev pub end_of_cylinder : ℕ
end_of_cylinder = 0x20

-- the first of these records that is looked for; k numbers the first of them
abbrev pub first_of : (Record → Bool) → ℕ → List Record → Option ℕ
first_of wanted k [] = None
first_of wanted k (r ∷ rs) = if wanted r then Some k else first_of wanted (k + 1) rs

-- the first record from the one with index i that is looked for
abbrev pub first_from : (Record → Bool) → List Record → ℕ → Option ℕ
first_from wanted records i = first_of wanted i (drop i records)

-- Past the index record 0 is next; the second index point is no record found.
abbrev pub once_round : ℕ → ℕ → Option ℕ → Found
once_round head points None = Lost head no_record_found
once_round head points (Some i) = There head i points

-- the record that is found after an index point
abbrev pub past_index : (Record → Bool) → List Record → ℕ → ℕ → Found
past_index wanted records head points =
    if nat_le 1 points then Lost head no_record_found
    else once_round head (points + 1) (first_from wanted records 0)

-- the record that is found on one track, if it is not among those ahead of the head
abbrev pub on_track : (Record → Bool) → List Record → ℕ → ℕ → Option ℕ → Found
on_track wanted records head points (Some i) = There head i points
on_track wanted records head points None = past_index wanted records head points

-- mask bits 3-4 of 11 forbid a switch of heads
abbrev pub bars_switch : ℕ → Bool
bars_switch mask = bit_and mask 0x18 == 0x18

-- A multitrack search goes on over the heads after this one, of which there are so many; the arm
-- keeps the head that it came to.
abbrev pub or_else : Option ℕ → ℕ → Found → Found
or_else (Some i) head rest = There head i 0
or_else None head rest = rest

-- the record that is found on one of the tracks after this one
abbrev pub switched : (Record → Bool) → Cylinder → ℕ → ℕ → ℕ → Found
switched wanted cylinder mask head zero = if bars_switch mask then Lost head file_protected
    else Lost head end_of_cylinder
switched wanted cylinder mask head (suc more) =
    if bars_switch mask then Lost head file_protected
    else or_else (first_from wanted (records_at cylinder (head + 1)) 0) (head + 1)
    (switched wanted cylinder mask (head + 1) more)

-- a search is multitrack where bit 0 of its code is one
abbrev pub is_multitrack : ℕ → Bool
is_multitrack code = nat_le 0x80 code

-- the record that is found on this track or on those after it
abbrev pub across : (Record → Bool) → Cylinder → ℕ → ℕ → ℕ → Option ℕ → Found
across wanted cylinder mask head points (Some i) = There head i points
across wanted cylinder mask head points None = switched wanted cylinder mask head (18 - head)

-- The record that a command finds, from this one on.
abbrev pub found : ℕ → (Record → Bool) → Cylinder → Front → ℕ → Found
found code wanted cylinder f i =
    if is_multitrack code
    then across wanted cylinder f.mask f.head f.points
    (first_from wanted (records_at cylinder f.head) i)
    else on_track wanted (records_at cylinder f.head) f.head f.points
    (first_from wanted (records_at cylinder f.head) i)

-- The index: a pass unless the head is there; for a multitrack search a switch to the next head.
abbrev pub index_passed : Front → Found
index_passed f = if nat_le 1 f.points then Lost f.head no_record_found
    else There f.head 0 (f.points + 1)

-- the index point of the next track
abbrev pub index_switched : Front → Found
index_switched f =
    if bars_switch f.mask then Lost f.head file_protected
    else if nat_le 18 f.head then Lost f.head end_of_cylinder else There (f.head + 1) 0 0

-- the index point that a command comes to
abbrev pub over_index : ℕ → Front → Found
over_index code f = if is_multitrack code then index_switched f else index_passed f

-- the index point for a command at a place of the track
abbrev pub to_index : ℕ → Front → Orientation → Found
to_index code f Index = There f.head 0 f.points
to_index code f (Gap i) = over_index code f
to_index code f (Count i) = over_index code f
to_index code f (Key i) = over_index code f
