-- What a volume text says, line by line (docs/FORMATS.md, "Volume texts").
use Rattle.std.specs.Prelude.{◌≡◌, ◌⊎◌, ℕ, ◌&&◌, Bool, true, if◌then◌else◌, nat_le, nat_lt}
use Rattle.std.specs.Prelude.{IsSome, IsSomeAnd, List, [], ◌∷◌}
use Rattle.std.specs.Prelude.{length, slice_index_or, codes, Option, Some, None, Result, Ok, Err}
use Rattle.std.specs.Option.{option_map, option_and_then}
use Rattle.std.specs.Str.{bytes_eq}
use Rattle.text_words.specs.Lines.{and_then, lines_of, read_lines}
use Rattle.text_words.specs.Words.{word_of, after_word}
use Rattle.text_words.specs.Numbers.{decimal_of}
use Rattle.ckd_track.specs.Track.{Record, TrackFormat, has_room, with_last}
use Rattle.ckd_volume.specs.Front.{track_at}
use Rattle.ckd_volume.specs.Volume.{VolumeFormat, blank_cylinders}
use Rattle.ckd_volume.specs.LendingVolume.{with_track}
use Rattle.ckd_text.specs.Fields.{TakesMemory, bytes_of, five_of, serial_of}
use Rattle.ckd_text.specs.declared.reader.TextError.{TextError}
use Rattle.ckd_text.specs.declared.reader.TextError.TheVariants as errors

-- what a line after the first states
pub data Stated : Type 0 where
  -- the track under this head of this cylinder has this home address
  Home : ℕ → ℕ → List ℕ → Stated
  -- it has this record, after those that it has
  Add : ℕ → ℕ → Record → Stated

-- a volume of 1 to 808 cylinders, without records
abbrev pub counted : List ℕ → ℕ → Option VolumeFormat
counted serial cylinders =
    if nat_le 1 cylinders && nat_le cylinders 808
    then Some (record { volser = serial; cylinders = blank_cylinders 0 cylinders })
    else None

-- `VOLUME serial cylinders`, after its first word
abbrev pub volume_by : List ℕ → Option VolumeFormat
volume_by operands = option_and_then
    (λ serial. option_and_then (λ digits. option_and_then (counted serial) (decimal_of 7 digits))
    (after_word operands)) (serial_of (word_of operands))

-- what the first line states
abbrev pub first_of : List ℕ → Option VolumeFormat
first_of line = if bytes_eq (word_of line) (codes "VOLUME") then option_and_then volume_by (after_word line) else None

-- a cylinder and a head, as two words, and what follows them
pub record Placed : Type 0 where
  pub cylinder : ℕ
  pub head : ℕ
  pub rest : List ℕ

-- the place that the first operands name: a cylinder and a head
abbrev pub placed_of : List ℕ → Option Placed
placed_of operands = option_and_then
    (λ c. option_and_then (λ more.
    option_and_then (λ h. option_map (λ rest. record { cylinder = c; head = h; rest = rest })
    (after_word more)) (decimal_of 7 (word_of more))) (after_word operands))
    (decimal_of 7 (word_of operands))

-- `HOME cylinder head address`, after its first word
abbrev pub home_by : Placed → Option Stated
home_by at = option_map (Home at.cylinder at.head) (five_of at.rest)

-- the id, the key and the data of a record, as three words
abbrev pub record_of : List ℕ → Option Record
record_of fields = option_and_then
    (λ id. option_and_then (λ more.
    option_and_then (λ key. option_and_then
    (λ last. option_map (λ content. record { id = id; key = key; content = content })
    (bytes_of last)) (after_word more)) (bytes_of (word_of more))) (after_word fields))
    (five_of (word_of fields))

-- `REC cylinder head id key data`, after its first word
abbrev pub add_by : Placed → Option Stated
add_by at = option_map (Add at.cylinder at.head) (record_of at.rest)

-- by the first word
abbrev pub stated_by : List ℕ → List ℕ → Option Stated
stated_by verb operands =
    if bytes_eq verb (codes "HOME") then option_and_then home_by (placed_of operands)
    else if bytes_eq verb (codes "REC") then option_and_then add_by (placed_of operands)
    else None

-- what a line states, if its words are right
abbrev pub stated_of : List ℕ → Option Stated
stated_of line = option_and_then (stated_by (word_of line)) (after_word line)

-- whether a volume has this track
abbrev pub has_track : VolumeFormat → ℕ → ℕ → Bool
has_track v c h = nat_lt c (length v.cylinders) && nat_lt h 19

-- the track of a volume at a place
abbrev pub track_of : VolumeFormat → ℕ → ℕ → TrackFormat
track_of v c h = track_at (slice_index_or v.cylinders c []) h

-- the volume with what was stated, where it has the track, and the track has room
abbrev pub with_stated : VolumeFormat → Stated → Option VolumeFormat
with_stated v (Home c h home) =
    if has_track v c h then Some
    (with_track v c h (record { home = home; records = (track_of v c h).records }))
    else None
with_stated v (Add c h r) =
    if has_track v c h && has_room (track_of v c h) (length (track_of v c h).records) (length r.key)
    (length r.content) then Some
    (with_track v c h (with_last (track_of v c h) (length (track_of v c h).records) r))
    else None

-- a line that is refused is reported by its number
abbrev pub reported : {A : Type 0} → ℕ → Option A → Result A ℕ
reported number None = Err number
reported number (Some a) = Ok a

-- the volume after one more line, or the number of that line
abbrev pub line_step : ℕ → VolumeFormat → List ℕ → Result VolumeFormat ℕ
line_step number v line = reported number (option_and_then (with_stated v) (stated_of line))

-- the volume that lines state, or the number of the first that is refused; no line is as little as
-- a wrong first one
abbrev pub stated_volume : List (List ℕ) → Result VolumeFormat ℕ
stated_volume [] = Err 1
stated_volume (first ∷ lines) =
    and_then (reported 1 (first_of first)) (λ v. read_lines line_step 2 v lines)

-- the volume that a text states, or the number of its first wrong line
abbrev pub volume_of : List ℕ → Result VolumeFormat ℕ
volume_of text = stated_volume (lines_of text)

-- memory is taken for the key of a record whose id is right, and then for its data
abbrev pub RecordTakesMemory : List ℕ → Type 0
RecordTakesMemory fields = IsSome (five_of (word_of fields))
    × IsSomeAnd (after_word fields) (λ more. TakesMemory (word_of more)
    ⊎ (IsSome (bytes_of (word_of more)) × IsSomeAnd (after_word more) TakesMemory))

-- a line takes memory only for a record, whose place is right
abbrev pub LineTakesMemory : List ℕ → Type 0
LineTakesMemory line = (bytes_eq (word_of line) (codes "REC") ≡ true)
    × IsSomeAnd (after_word line) (λ operands.
    IsSomeAnd (placed_of operands) (λ at. RecordTakesMemory at.rest))

-- memory may be refused at one of these lines: it takes memory, and each line before it is right
abbrev pub MayRefuseMemory : VolumeFormat → List (List ℕ) → Type 0
MayRefuseMemory v [] = ⊥
MayRefuseMemory v (line ∷ lines) = LineTakesMemory line
    ⊎ ((next : VolumeFormat) × (option_and_then (with_stated v) (stated_of line) ≡ Some next)
    × MayRefuseMemory next lines)

-- the first line states a volume, which takes memory
abbrev pub BeginsRight : List (List ℕ) → Type 0
BeginsRight [] = ⊥
BeginsRight (first ∷ lines) = IsSome (first_of first)

-- why no volume is made of a text: memory, or its first wrong line
abbrev pub IsRefusal : Result VolumeFormat ℕ → TextError → Type 0
IsRefusal volume errors.Memory = Unit {0}
IsRefusal volume (errors.Line number) = volume ≡ Err number
