-- The grammar of volume texts, as a relation between lines and a volume (docs/FORMATS.md, "Volume
-- texts").
use Rattle.std.specs.Prelude.{◌≡◌, ℕ, ◌+◌, ◌≤◌, ◌⊎◌, true, List, [], ◌∷◌, ◌++◌, length, codes, Some}
use Rattle.std.specs.Prelude.{Ok, Err}
use Rattle.text_words.specs.Lines.{lines_of}
use Rattle.text_words.specs.Words.{NoBlank}
use Rattle.text_words.specs.Numbers.{decimal_of}
use Rattle.ckd_track.specs.Track.{Record}
use Rattle.ckd_volume.specs.Volume.{VolumeFormat, blank_cylinders}
use Rattle.ckd_text.specs.Fields.{bytes_of, five_of, is_serial, padded}
use Rattle.ckd_text.specs.Text.{Stated, Home, Add, volume_of, with_stated}

-- `VOLUME serial cylinders`: one blank between the words, 1 to 7 decimal digits and 1 to 808
pub record SaysVolume (line : List ℕ) (v : VolumeFormat) : Type 0 where
  pub serial : List ℕ
  pub digits : List ℕ
  pub cylinders : ℕ
  pub spelled : line ≡ codes "VOLUME" ++ 32 ∷ (serial ++ 32 ∷ digits)
  pub whole : NoBlank serial
  pub lawful : is_serial serial ≡ true
  pub number : decimal_of 7 digits ≡ Some cylinders
  pub least : 1 ≤ cylinders
  pub most : cylinders ≤ 808
  pub blank : v ≡ record { volser = padded serial; cylinders = blank_cylinders 0 cylinders }

-- two words that are a cylinder and a head, each followed by one blank
pub record SaysPlace (operands : List ℕ) (c h : ℕ) (rest : List ℕ) : Type 0 where
  pub cylinder : List ℕ
  pub head : List ℕ
  pub spelled : operands ≡ cylinder ++ 32 ∷ (head ++ 32 ∷ rest)
  pub cylinder_whole : NoBlank cylinder
  pub head_whole : NoBlank head
  pub cylinder_number : decimal_of 7 cylinder ≡ Some c
  pub head_number : decimal_of 7 head ≡ Some h

-- `HOME cylinder head address`
pub record SaysHome (line : List ℕ) (c h : ℕ) (home : List ℕ) : Type 0 where
  pub operands : List ℕ
  pub address : List ℕ
  pub spelled : line ≡ codes "HOME" ++ 32 ∷ operands
  pub place : SaysPlace operands c h address
  pub five : five_of address ≡ Some home

-- three words that are the id, the key and the data of a record
pub record SaysRecord (fields : List ℕ) (r : Record) : Type 0 where
  pub id : List ℕ
  pub key : List ℕ
  pub content : List ℕ
  pub spelled : fields ≡ id ++ 32 ∷ (key ++ 32 ∷ content)
  pub id_whole : NoBlank id
  pub key_whole : NoBlank key
  pub id_bytes : five_of id ≡ Some r.id
  pub key_bytes : bytes_of key ≡ Some r.key
  pub content_bytes : bytes_of content ≡ Some r.content

-- `REC cylinder head id key data`
pub record SaysAdd (line : List ℕ) (c h : ℕ) (r : Record) : Type 0 where
  pub operands : List ℕ
  pub fields : List ℕ
  pub spelled : line ≡ codes "REC" ++ 32 ∷ operands
  pub place : SaysPlace operands c h fields
  pub said : SaysRecord fields r

-- a line says what is stated
abbrev pub Says : List ℕ → Stated → Type 0
Says line (Home c h home) = SaysHome line c h home
Says line (Add c h r) = SaysAdd line c h r

-- the lines make this volume of that one: each says something for which the volume has a place
abbrev pub Fills : VolumeFormat → List (List ℕ) → VolumeFormat → Type 0
Fills v [] made = v ≡ made
Fills v (line ∷ lines) made = (s : Stated) × (next : VolumeFormat) × Says line s
    × (with_stated v s ≡ Some next) × Fills next lines made

-- the lines are a text of this volume: the first says a blank one, and the others fill it
abbrev pub IsText : List (List ℕ) → VolumeFormat → Type 0
IsText [] made = ⊥
IsText (first ∷ lines) made = (v : VolumeFormat) × SaysVolume first v × Fills v lines made

-- the first line says no volume, or there is none
abbrev pub BeginsWrong : List (List ℕ) → Type 0
BeginsWrong [] = Unit {0}
BeginsWrong (first ∷ lines) = (v : VolumeFormat) → SaysVolume first v → ⊥

-- this line, counted from 1, is the first that is wrong after a first line that is not: those
-- before it are a text, and it says nothing for which their volume has a place
pub record IsFirstWrong (lines : List (List ℕ)) (number : ℕ) : Type 0 where
  pub before : List (List ℕ)
  pub wrong : List ℕ
  pub after : List (List ℕ)
  pub split : lines ≡ before ++ wrong ∷ after
  pub numbered : number ≡ length before + 1
  pub so_far : VolumeFormat
  pub accepted : IsText before so_far
  pub refused : (s : Stated) (next : VolumeFormat) → Says wrong s → with_stated so_far s ≡ Some next
      → ⊥

-- what is made is in the grammar, what is in the grammar is made, and the line that is reported is
-- the first wrong one
abbrev pub ReadsGrammar : Type 0
ReadsGrammar = (text : List ℕ) →
    ((v : VolumeFormat) → volume_of text ≡ Ok v → IsText (lines_of text) v)
    × ((v : VolumeFormat) → IsText (lines_of text) v → volume_of text ≡ Ok v)
    × ((number : ℕ) → volume_of text ≡ Err number
    → ((number ≡ 1) × BeginsWrong (lines_of text)) ⊎ IsFirstWrong (lines_of text) number)
