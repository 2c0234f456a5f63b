-- What whole commands come to.
use Rattle.std.specs.Prelude.{ℕ, zero, suc, ◌+◌, ◌-◌, ◌≡◌, ◌<◌, ◌≤◌, Bool, true, false, List, []}
use Rattle.std.specs.Prelude.{◌∷◌, ◌++◌, length, map, take, drop, slice_index_or, None}
use Rattle.s370_num.specs.Ebcdic.{printable_of}
use Rattle.s370_walk.specs.declared.bits.Flags.{Flags}
use Rattle.s370_walk.specs.declared.parts.Order.{Order}
use Rattle.s370_walk.specs.declared.parts.Answer.TheVariants.{Refused, Input}
use Rattle.s370_walk.specs.Hardware.{Machine, after_taking}
use Rattle.unit_record.specs.Front.{unit_exception}
use Rattle.unit_record.specs.Punch.{PunchState, punch_machine, whole_card}
use Rattle.unit_record.specs.Printer.{PrinterState, printer_machine, is_write}
use Rattle.unit_record.specs.Reader.{ReaderState, DeckValue, reader_answer, reader_started}
use Rattle.unit_record.specs.Console.{ConsoleState, console_machine}

-- a command of this code
abbrev pub asked : ℕ → Bool → Flags → Order
asked code first flags = record { command = record { code = code }; first = first; flags = flags }

-- A whole command: it begins, takes these bytes and ends.
abbrev pub carried_out : {D : Type 0} → Machine D → D → Order → List ℕ → D
carried_out machine d order bytes =
    machine.finished (after_taking machine (machine.started d order) bytes)

-- Punch adds one card to the open file, of these bytes and blanks.
abbrev pub PunchesOneCard : Type 0
PunchesOneCard =
    (p : PunchState) (first : Bool) (flags : Flags) (bytes : List ℕ) → length bytes ≤ 80
    → (carried_out punch_machine p (asked 0x01 first flags) bytes).entries ≡ p.entries
    ++ whole_card bytes ∷ []

-- A card of 80 bytes is those bytes.
abbrev pub KeepsEightyBytes : Type 0
KeepsEightyBytes = (bytes : List ℕ) → length bytes ≡ 80 → (whole_card bytes).bytes ≡ bytes

-- A write adds one entry, of its code and these bytes.
abbrev pub PrintsOneEntry : Type 0
PrintsOneEntry =
    (p : PrinterState) (code : ℕ) (first : Bool) (flags : Flags) (bytes : List ℕ)
    → is_write code ≡ true → length bytes ≤ 132
    → (carried_out printer_machine p (asked code first flags) bytes).entries ≡ p.entries
    ++ record { code = code; bytes = bytes } ∷ []

-- Read after read.
abbrev pub after_reads : ReaderState → Order → ℕ → ReaderState
after_reads r order zero = r
after_reads r order (suc n) = reader_started (after_reads r order n) order

-- a reader with a deck in front, of which no card was read
abbrev pub before_deck : DeckValue → List DeckValue → ℕ → List ℕ → ReaderState
before_deck deck decks sense giving =
    record { decks = deck ∷ decks; place = None; sense = sense; giving = giving }

-- The cards of a deck come in order, each once; then comes the unit exception, once, and the deck
-- is gone.
pub record ReadsInOrder (r : ReaderState) (order : Order) (deck : DeckValue)
    (decks : List DeckValue) : Type 0 where
  pub answers : (k : ℕ) → k < length deck.cards
      → reader_answer (after_reads r order k) order ≡ Input 80
  pub cards : (k : ℕ) → k < length deck.cards
      → (after_reads r order (suc k)).giving ≡ slice_index_or deck.cards k []
  pub exception : reader_answer (after_reads r order (length deck.cards)) order
      ≡ Refused unit_exception
  pub gone : (after_reads r order (suc (length deck.cards))).decks ≡ decks
  pub none_current : (after_reads r order (suc (length deck.cards))).place ≡ None

-- reads of a deck give each of its cards once, in order, and then the unit exception
abbrev pub ReadsDecksInOrder : Type 0
ReadsDecksInOrder =
    (deck : DeckValue) (decks : List DeckValue) (sense : ℕ) (giving : List ℕ) (first : Bool)
    (flags : Flags)
    → ReadsInOrder (before_deck deck decks sense giving) (asked 0x02 first flags) deck decks

-- The characters of these bytes.
abbrev pub printed : List ℕ → List ℕ
printed bytes = map printable_of bytes

-- how many characters still fit into a console's unfinished line
abbrev pub space_left : ConsoleState → ℕ
space_left c = 132 - length c.unfinished

-- A write that fits makes one line of what was unfinished and its characters.
abbrev pub WritesOneLine : Type 0
WritesOneLine =
    (c : ConsoleState) (first : Bool) (flags : Flags) (bytes : List ℕ)
    → length c.unfinished + length bytes ≤ 132
    → (carried_out console_machine c (asked 0x09 first flags) bytes).lines ≡ c.lines
    ++ (c.unfinished ++ printed bytes) ∷ []

-- A longer one fills that line up to 132 characters, and makes a line of the others.
abbrev pub WritesTwoLines : Type 0
WritesTwoLines =
    (c : ConsoleState) (first : Bool) (flags : Flags) (bytes : List ℕ) → length c.unfinished ≤ 132
    → length bytes ≤ 132 → 132 < length c.unfinished + length bytes
    → (carried_out console_machine c (asked 0x09 first flags) bytes).lines
    ≡ c.lines ++ (c.unfinished ++ printed (take (space_left c) bytes)) ∷ printed
    (drop (space_left c) bytes) ∷ []

-- A write that does not end the line leaves its characters there, or those that did not fit.
abbrev pub WritesOn : Type 0
WritesOn =
    (c : ConsoleState) (first : Bool) (flags : Flags) (bytes : List ℕ)
    → length c.unfinished + length bytes ≤ 132
    → carried_out console_machine c (asked 0x01 first flags) bytes
    ≡ record c { unfinished = c.unfinished ++ printed bytes; wanted = 0; ends_line = false }
