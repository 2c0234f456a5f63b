-- The typewriter console (GA24-3550, "3215 Console Printer-Keyboard", for the commands; lengths and
-- attention are the profile's).
use Rattle.std.specs.Prelude.{ℕ, ◌-◌, ◌==◌, ◌||◌, Bool, false, nat_lt, if◌then◌else◌, List, [], ◌∷◌}
use Rattle.std.specs.Prelude.{◌++◌, length, drop, map, slice_index, unwrap_or}
use Rattle.s370_num.specs.Ebcdic.{byte_of, printable_of}
use Rattle.s370_walk.specs.declared.parts.Order.{Order}
use Rattle.s370_walk.specs.declared.parts.Answer.{Answer}
use Rattle.s370_walk.specs.declared.parts.Answer.TheVariants.{Refused, Immediate, Input, OutputUpTo}
use Rattle.s370_walk.specs.Hardware.{Machine}
use Rattle.unit_record.specs.Front.{is_sense, nothing_to_say, unit_check, unit_exception}
use Rattle.unit_record.specs.Front.{command_reject}

-- State
pub record ConsoleState : Type 0 where
  -- the lines that are finished, and the one that is not, in characters
  pub lines : List (List ℕ)
  pub unfinished : List ℕ
  -- the lines that were typed and not yet read, as bytes
  pub waiting : List (List ℕ)
  pub sense : ℕ
  -- how many bytes the write that is under way still takes, and whether it ends the line
  pub wanted : ℕ
  pub ends_line : Bool
  -- the bytes that are still to be given
  pub giving : List ℕ

-- A character joins the line. One that would be the 133rd ends the line first.
abbrev pub with_character : ConsoleState → ℕ → ConsoleState
with_character c character =
    if length c.unfinished == 132
    then record c { lines = c.lines ++ c.unfinished ∷ []; unfinished = character ∷ [] }
    else record c { unfinished = c.unfinished ++ character ∷ [] }

-- Commands by code: write, and write and end the line
abbrev pub is_write : ℕ → Bool
is_write code = code == 0x01 || code == 0x09

-- Read the first waiting line
abbrev pub read_answer : List (List ℕ) → Answer
read_answer [] = Refused unit_exception
read_answer (line ∷ lines) = Input (length line)

-- how the console answers a command
abbrev pub console_answer : ConsoleState → Order → Answer
console_answer c order =
    if is_write order.command.code then OutputUpTo 132
    else if order.command.code == 0x0A then read_answer c.waiting
    -- No-op
    else if order.command.code == 0x03 then Immediate
    -- Sense
    else if is_sense order then Input 1
    else Refused unit_check

-- Read gives the first waiting line
abbrev pub read_started : ConsoleState → List (List ℕ) → ConsoleState
read_started c [] = c
read_started c (line ∷ lines) = record c { waiting = lines; giving = line }

-- the console after a command has begun
abbrev pub console_started : ConsoleState → Order → ConsoleState
console_started c order =
    if is_write order.command.code
    then record c { wanted = 132; ends_line = order.command.code == 0x09 }
    else if order.command.code == 0x0A then read_started c c.waiting
    else if order.command.code == 0x03 then c
    else if is_sense order then record c { giving = c.sense ∷ [] }
    else record c { sense = command_reject }

-- Memory: a write needs it, for the lines that it may finish
abbrev pub console_needs_memory : ConsoleState → Order → Bool
console_needs_memory c order = is_write order.command.code

-- Data: what is written is kept as it prints
abbrev pub console_took : ConsoleState → ℕ → ConsoleState
console_took c byte = if nat_lt 0 c.wanted
    then record (with_character c (printable_of byte)) { wanted = c.wanted - 1 } else c

-- End
abbrev pub console_finished : ConsoleState → ConsoleState
console_finished c =
    if c.ends_line
    then record c {
      lines = c.lines ++ c.unfinished ∷ [];
      unfinished = [];
      wanted = 0;
      ends_line = false;
    }
    else record c { wanted = 0 }

-- the console as a device
abbrev pub console_machine : Machine ConsoleState
console_machine =
    record {
      answer = console_answer;
      started = console_started;
      done = λ c. false;
      gives = λ c. slice_index c.giving 0;
      gave = λ c. record c { giving = drop 1 c.giving };
      took = console_took;
      status = λ c. nothing_to_say;
      finished = console_finished;
    }

-- From outside: a reset, which drops what waits and leaves what was written.
abbrev pub console_new : ConsoleState
console_new = record {
  lines = [];
  unfinished = [];
  waiting = [];
  sense = 0;
  wanted = 0;
  ends_line = false;
  giving = [];
}

-- the console after a reset
abbrev pub console_reset : ConsoleState → ConsoleState
console_reset c = record c { waiting = []; sense = 0; wanted = 0; ends_line = false; giving = [] }

-- The finished lines were taken elsewhere.
abbrev pub without_lines : ConsoleState → ConsoleState
without_lines c = record c { lines = [] }

-- A line that is typed is kept where fewer than 16 wait. A character without a byte becomes a
-- blank.
abbrev pub has_room : ConsoleState → Bool
has_room c = nat_lt (length c.waiting) 16

-- the EBCDIC byte of a typed character
abbrev pub typed_byte : ℕ → ℕ
typed_byte character = unwrap_or (byte_of character) 0x40

-- the console with one more line that waits, if it has room
abbrev pub with_typed : ConsoleState → List ℕ → ConsoleState
with_typed c text = if has_room c then record c { waiting = c.waiting ++ map typed_byte text ∷ [] }
    else c

-- Attention is wanted where a line waits.
abbrev pub wants_attention : ConsoleState → Bool
wants_attention c = nat_lt 0 (length c.waiting)
