-- The card punch (profile; GA21-9124, "IBM 3525 Card Punch", for the command).
use Rattle.std.specs.Prelude.{ℕ, ◌-◌, ◌==◌, Bool, true, false, nat_lt, if◌then◌else◌, List, [], ◌∷◌}
use Rattle.std.specs.Prelude.{◌++◌, length, replicate}
use Rattle.s370_walk.specs.declared.parts.Order.{Order}
use Rattle.s370_walk.specs.declared.parts.Answer.{Answer}
use Rattle.s370_walk.specs.declared.parts.Answer.TheVariants.{Refused, Immediate, Input, Output}
use Rattle.s370_walk.specs.Hardware.{Machine}
use Rattle.unit_record.specs.Front.{is_sense, nothing_to_say, unit_check, command_reject}
use Rattle.unit_record.specs.Output.{EntryValue}

-- State
pub record PunchState : Type 0 where
  -- the cards of the open file
  pub entries : List EntryValue
  pub sense : ℕ
  -- whether a card is being punched, and the bytes that it has
  pub is_punching : Bool
  pub card : List ℕ

-- Commands by code
abbrev pub punch_answer : PunchState → Order → Answer
punch_answer p order =
    -- Punch takes exactly 80 bytes
    if order.command.code == 0x01 then Output 80
    -- No-op
    else if order.command.code == 0x03 then Immediate
    -- Sense
    else if is_sense order then Input 1
    else Refused unit_check

-- the punch after a command has begun
abbrev pub punch_started : PunchState → Order → PunchState
punch_started p order =
    if order.command.code == 0x01 then record p { is_punching = true; card = [] }
    else if order.command.code == 0x03 then p
    else if is_sense order then p
    else record p { sense = command_reject }

-- Memory: Punch needs it, for its card
abbrev pub punch_needs_memory : PunchState → Order → Bool
punch_needs_memory p order = order.command.code == 0x01

-- Data
abbrev pub punch_took : PunchState → ℕ → PunchState
punch_took p byte = if nat_lt (length p.card) 80 then record p { card = p.card ++ byte ∷ [] } else p

-- End: bytes that are missing are blanks
abbrev pub whole_card : List ℕ → EntryValue
whole_card bytes = record { code = 0x01; bytes = bytes ++ replicate (80 - length bytes) 0x40 }

-- the punch after a card was written
abbrev pub punch_finished : PunchState → PunchState
punch_finished p =
    if p.is_punching then record
    p { entries = p.entries ++ whole_card p.card ∷ []; is_punching = false; card = [] } else p

-- the punch as a device
abbrev pub punch_machine : Machine PunchState
punch_machine =
    record {
      answer = punch_answer;
      started = punch_started;
      done = λ p. false;
      gives = λ p. p.sense;
      gave = λ p. p;
      took = punch_took;
      status = λ p. nothing_to_say;
      finished = punch_finished;
    }

-- From outside: a reset, and the open file taken to be closed. Both find no command under way, or
-- end it.
abbrev pub punch_new : PunchState
punch_new = record { entries = []; sense = 0; is_punching = false; card = [] }

-- the punch after a reset
abbrev pub punch_reset : PunchState → PunchState
punch_reset p = record p { sense = 0; is_punching = false; card = [] }

-- the punch after its file was closed
abbrev pub punch_emptied : PunchState → PunchState
punch_emptied p = record p { entries = []; is_punching = false; card = [] }
