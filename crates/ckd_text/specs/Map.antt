-- What trackmap prints of a volume (docs/FORMATS.md, "Track maps"): a line that names it, each
-- track that is not blank with its records, and how many tracks are blank.
use Rattle.std.specs.Prelude.{ℕ, ◌+◌, ◌==◌, ◌&&◌, Bool, if◌then◌else◌, List, [], ◌∷◌, ◌++◌, length}
use Rattle.std.specs.Prelude.{codes}
use Rattle.std.specs.Fmt.{decimal}
use Rattle.std.specs.Str.{bytes_eq}
use Rattle.hex.specs.Hex.{encode_upper}
use Rattle.text_words.specs.Words.{word_of}
use Rattle.ckd_track.specs.Track.{Record, TrackFormat, cost, cost_of}
use Rattle.ckd_volume.specs.Front.{Cylinder}
use Rattle.ckd_volume.specs.Volume.{VolumeFormat, home_of}

-- `  id KEY bytes DATA bytes COST bytes`
abbrev pub record_line : Record → List ℕ
record_line r =
    codes "  "
    ++ (encode_upper r.id ++ (codes " KEY " ++ (decimal (length r.key) ++ (codes " DATA " ++ (decimal (length r.content) ++ (codes " COST " ++ (decimal (cost_of r) ++ codes "\n")))))))

-- the lines of records
abbrev pub record_lines : List Record → List ℕ
record_lines [] = []
record_lines (r ∷ rs) = record_line r ++ record_lines rs

-- `TRACK cylinder head HOME address RECORDS number FILL bytes OF 13165`
abbrev pub track_line : ℕ → ℕ → TrackFormat → List ℕ
track_line c h t =
    codes "TRACK "
    ++ (decimal c ++ (codes " " ++ (decimal h ++ (codes " HOME " ++ (encode_upper t.home ++ (codes " RECORDS " ++ (decimal (length t.records) ++ (codes " FILL " ++ (decimal (cost t.records) ++ codes " OF 13165\n")))))))))

-- a track without records whose home address is its own
abbrev pub is_blank : ℕ → ℕ → TrackFormat → Bool
is_blank c h t = length t.records == 0 && bytes_eq t.home (home_of c h)

-- the lines of a track, unless it is blank
abbrev pub track_lines : ℕ → ℕ → TrackFormat → List ℕ
track_lines c h t = if is_blank c h t then [] else track_line c h t ++ record_lines t.records

-- the tracks of a cylinder, from this head on
abbrev pub cylinder_lines : ℕ → ℕ → Cylinder → List ℕ
cylinder_lines c h [] = []
cylinder_lines c h (t ∷ ts) = track_lines c h t ++ cylinder_lines c (h + 1) ts

-- the cylinders, from this one on
abbrev pub volume_lines : ℕ → List Cylinder → List ℕ
volume_lines c [] = []
volume_lines c (tracks ∷ more) = cylinder_lines c 0 tracks ++ volume_lines (c + 1) more

-- how many tracks are blank
abbrev pub blank_heads : ℕ → ℕ → Cylinder → ℕ
blank_heads c h [] = 0
blank_heads c h (t ∷ ts) = (if is_blank c h t then 1 else 0) + blank_heads c (h + 1) ts

-- how many tracks of cylinders are blank
abbrev pub blank_count : ℕ → List Cylinder → ℕ
blank_count c [] = 0
blank_count c (tracks ∷ more) = blank_heads c 0 tracks + blank_count (c + 1) more

-- `VOLUME serial CYLINDERS number`
abbrev pub cylinders_text : VolumeFormat → List ℕ
cylinders_text v = codes " CYLINDERS " ++ (decimal (length v.cylinders) ++ codes "\n")

-- the first line of a map
abbrev pub volume_line : VolumeFormat → List ℕ
volume_line v = codes "VOLUME " ++ (word_of v.volser ++ cylinders_text v)

-- `BLANK TRACKS number`
abbrev pub blank_line : ℕ → List ℕ
blank_line count = codes "BLANK TRACKS " ++ (decimal count ++ codes "\n")

-- the map of a volume
abbrev pub map_of : VolumeFormat → List ℕ
map_of v = volume_line v ++ (volume_lines 0 v.cylinders ++ blank_line (blank_count 0 v.cylinders))
