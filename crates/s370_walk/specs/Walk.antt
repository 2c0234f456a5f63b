-- The walk of a channel program, one step at a time (GA22-7000, "Execution of Input/Output
-- Operations"; docs/MACHINE.md, "Channel", says the same in sentences).
use Rattle.std.specs.Prelude.{ℕ, zero, suc, ◌+◌, ◌-◌, ◌%◌, ◌==◌, ◌≡◌, Bool, true, false, ◌||◌, ◌&&◌}
use Rattle.std.specs.Prelude.{not, nat_le, if◌then◌else◌, List, Option, None, Some}
use Rattle.s370_store.specs.declared.Access.TheVariants.{Fetch, Store}
use Rattle.s370_store.specs.declared.Fault.{Fault}
use Rattle.s370_store.specs.declared.Fault.TheVariants.{Addressing, Protection, Absent}
use Rattle.s370_store.specs.Access.{Test}
use Rattle.s370_walk.specs.declared.bits.UnitStatus.{UnitStatus}
use Rattle.s370_walk.specs.declared.bits.ChannelStatus.{ChannelStatus}
use Rattle.s370_walk.specs.declared.parts.Order.{Order}
use Rattle.s370_walk.specs.declared.parts.Answer.{Answer}
use Rattle.s370_walk.specs.declared.parts.Answer.TheVariants as answers
use Rattle.s370_walk.specs.declared.parts.Direction.{Direction}
use Rattle.s370_walk.specs.declared.parts.Direction.TheVariants.{Gives, Takes, TakesUpTo}
use Rattle.s370_walk.specs.declared.parts.Transfer.{Transfer}
use Rattle.s370_walk.specs.declared.parts.NextCcw.{NextCcw}
use Rattle.s370_walk.specs.declared.parts.Position.{Position}
use Rattle.s370_walk.specs.declared.parts.Ending.{Ending}
use Rattle.s370_walk.specs.declared.parts.Progress.{Progress}
use Rattle.s370_walk.specs.declared.parts.Progress.TheVariants.{At, Ended}
use Rattle.s370_walk.specs.declared.parts.Ccw.{Ccw}
use Rattle.s370_walk.specs.Bits.{has_bits, both}
use Rattle.s370_walk.specs.Blocks.{served}
use Rattle.s370_store.specs.Memory.{Memory}
use Rattle.s370_walk.specs.Hardware.{Machine, fault_of, area, put_byte, byte_at}

-- ---- What stays the same while a program runs, and where it is

-- what stays the same while a program runs
pub record Setting (D : Type 0) : Type 0 where
  pub machine : Machine D
  -- the key of the program
  pub key : ℕ
  -- how many commands may be started
  pub limit : ℕ
  -- how many of them are before the program's own
  pub prefix : ℕ

-- a word is to be fetched, or a word's bytes are being moved, or the program has ended
pub data State (D : Type 0) : Type 0 where
  Fetching : NextCcw → Memory → D → State D
  Moving : Position → Memory → D → State D
  Over : Ending → Memory → D → State D

-- How a program is read.
pub record Form : Type 0 where
  -- the word at an address, as storage is; None past storage
  pub text : Memory → ℕ → Option Ccw
  -- where the next byte lies; None where that cannot be found out
  pub place : Memory → Position → Option ℕ
  -- the byte at an address, as an output takes it
  pub load : Memory → Position → ℕ → ℕ

-- ---- Flags

-- whether the word has the chain-data flag
abbrev pub chains_data : Ccw → Bool
chains_data w = has_bits w.flags.bits 128

-- whether the word has the chain-command flag
abbrev pub chains_command : Ccw → Bool
chains_command w = has_bits w.flags.bits 64

-- whether the word has the flag that suppresses an incorrect-length indication
abbrev pub suppresses_length : Ccw → Bool
suppresses_length w = has_bits w.flags.bits 32

-- whether the word has the skip flag
abbrev pub skips : Ccw → Bool
skips w = has_bits w.flags.bits 16

-- whether the word has the indirect-data-addressing flag
abbrev pub is_indirect : Ccw → Bool
is_indirect w = has_bits w.flags.bits 4

-- ---- Judging a word

-- a transfer in channel: the low command bits are 1000
abbrev pub is_jump : Ccw → Bool
is_jump w = w.command.code % 16 == 8

-- what the channel decides of a word before it obeys it
pub data Verdict : Type 0 where
  -- a program check
  Bad : Verdict
  -- a transfer in channel
  Jump : Verdict
  -- a word to be obeyed
  Good : Verdict

-- a transfer in channel is bad as first word, after another one, or with an address off a
-- doubleword
abbrev pub is_bad_jump : NextCcw → Ccw → Bool
is_bad_jump spot w = spot.jumped || not (w.address % 8 == 0)

-- any other word is bad with a count of zero, with PCI or one of bits 38 and 39, or with a list off
-- a word boundary
abbrev pub is_bad_word : Ccw → Bool
is_bad_word w = w.count == 0 || has_bits w.flags.bits 11 ||
    (is_indirect w && not (w.address % 4 == 0))

-- as a command it is bad too with low command bits 0000, as a control command with CD, or as one
-- command too many
abbrev pub is_bad_command : ℕ → ℕ → Ccw → Bool
is_bad_command limit started w =
    w.command.code % 16 == 0 || (w.command.code % 4 == 3 && chains_data w) || nat_le limit started

-- whether a word is a command that may not be started: one in a chain of data is none
abbrev pub is_bad_in_role : ℕ → ℕ → Ccw → Option Transfer → Bool
is_bad_in_role limit started w None = is_bad_command limit started w
is_bad_in_role limit started w (Some transfer) = false

-- the verdict on the word at a place
abbrev pub judged : ℕ → NextCcw → Ccw → Verdict
judged limit spot w =
    if is_jump w then (if is_bad_jump spot w then Bad else Jump)
    else (if is_bad_word w || is_bad_in_role limit spot.started w spot.role then Bad else Good)

-- ---- Endings

-- the channel status without any check
abbrev pub no_check : ChannelStatus
no_check = record { bits = 0 }

-- the channel status with incorrect length
abbrev pub incorrect_length : ChannelStatus
incorrect_length = record { bits = 64 }

-- the channel status with a program check
abbrev pub program_check : ChannelStatus
program_check = record { bits = 32 }

-- the channel status with a protection check
abbrev pub protection_check : ChannelStatus
protection_check = record { bits = 16 }

-- the unit status without any bit
abbrev pub no_status : UnitStatus
no_status = record { bits = 0 }

-- every ending has channel end and device end, and the device's bits
abbrev pub ended : UnitStatus
ended = record { bits = 12 }

-- the ending of a program, with channel end and device end
abbrev pub ending : ℕ → UnitStatus → ChannelStatus → ℕ → Ending
ending at status check count =
    record { at = at; unit = both ended status; channel = check; count = count }

-- the state of the walk after a step that made this progress
abbrev pub state_of : {D : Type 0} → Progress → Memory → D → State D
state_of (At spot) m d = Fetching spot m d
state_of (Ended e) m d = Over e m d

-- a check stops the transfer, and the device ends with the bytes that it has
abbrev pub stops : {D : Type 0} → Setting D → ℕ → ChannelStatus → ℕ → Memory → D → State D
stops h at check count m d =
    Over (ending at (h.machine.status d) check count) m (h.machine.finished d)

-- a word cannot be fetched or is bad: a program check, whose count is zero
abbrev pub failure : {D : Type 0} → Machine D → Option Transfer → ℕ → D → Ending
failure machine None at d = ending at no_status program_check 0
failure machine (Some transfer) at d = ending at (machine.status d) program_check 0

-- where the device is then: it ends a transfer that the word would have continued
abbrev pub failed : {D : Type 0} → Machine D → Option Transfer → D → D
failed machine None d = d
failed machine (Some transfer) d = machine.finished d

-- the program ends at this word with a program check
abbrev pub fails : {D : Type 0} → Setting D → Option Transfer → ℕ → Memory → D → State D
fails h role at m d = Over (failure h.machine role at d) m (failed h.machine role d)

-- ---- A command that is over

-- the next word is a command with CC one and CD zero, and no unit check or unit exception
abbrev pub may_chain : Ccw → UnitStatus → Bool
may_chain w status = chains_command w && not (chains_data w) && not (has_bits status.bits 3)

-- a status modifier skips one word
abbrev pub next_place : UnitStatus → Ccw → ℕ
next_place status w = if has_bits status.bits 64 then w.skipped else w.next

-- no transfer in channel may be first in the program itself
abbrev pub at_command : ℕ → ℕ → ℕ → NextCcw
at_command prefix at started =
    record { at = at; role = None; jumped = started == prefix; started = started }

-- what follows a command that is over: its end, or the next command
abbrev pub closed : ℕ → Bool → UnitStatus → ℕ → ℕ → Ccw → ℕ → Progress
closed prefix wrong status at started w count =
    if wrong then Ended (ending at status incorrect_length count)
    else if may_chain w status then At (at_command prefix (next_place status w) started)
    else Ended (ending at status no_check count)

-- the state after a command that is over
abbrev pub closes : {D : Type 0} → Setting D → Bool → Position → Memory → D → State D
closes h wrong p m d =
    state_of (closed h.prefix wrong (h.machine.status d) p.at p.started p.word p.count) m
    (h.machine.finished d)

-- ---- A word that is fetched

-- the position at the first byte of a word
abbrev pub moving : NextCcw → ℕ → Ccw → Transfer → Position
moving spot started w transfer =
    record {
      at = spot.at;
      started = started;
      word = w;
      count = w.count;
      before = None;
      transfer = transfer;
    }

-- the transfer that a word begins
abbrev pub transfer_of : Ccw → Direction → ℕ → Transfer
transfer_of w kind left = record { command = w.command; kind = kind; left = left }

-- a refusal moves no byte and leaves the count whole; an immediate command does the same and ends
-- well
abbrev pub answered : {D : Type 0} → ℕ → NextCcw → Ccw → Answer → Memory → D → State D
answered prefix spot w (answers.Refused status) m d =
    Over (ending spot.at status no_check w.count) m d
answered prefix spot w answers.Immediate m d =
    state_of (closed prefix false no_status spot.at (spot.started + 1) w w.count) m d
answered prefix spot w (answers.Input n) m d =
    Moving (moving spot (spot.started + 1) w (transfer_of w Gives n)) m d
answered prefix spot w (answers.Output n) m d =
    Moving (moving spot (spot.started + 1) w (transfer_of w Takes n)) m d
answered prefix spot w (answers.OutputUpTo n) m d =
    Moving (moving spot (spot.started + 1) w (transfer_of w TakesUpTo n)) m d

-- the command as the device receives it
abbrev pub order_of : ℕ → NextCcw → Ccw → Order
order_of prefix spot w =
    record { command = w.command; first = spot.started == prefix; flags = w.flags }

-- a command is handed to the device; of a continuation only area, flags and count are used
abbrev pub entered : {D : Type 0} → Setting D → NextCcw → Ccw → Option Transfer → Memory → D
    → State D
entered h spot w None m d =
    answered h.prefix spot w (h.machine.answer d (order_of h.prefix spot w)) m
    (h.machine.started d (order_of h.prefix spot w))
entered h spot w (Some transfer) m d = Moving (moving spot spot.started w transfer) m d

-- a transfer in channel keeps the role, and is not counted
abbrev pub obeyed : {D : Type 0} → Setting D → NextCcw → Ccw → Verdict → Memory → D → State D
obeyed h spot w Bad m d = fails h spot.role spot.at m d
obeyed h spot w Jump m d =
    Fetching (record { at = w.next; role = spot.role; jumped = true; started = spot.started }) m d
obeyed h spot w Good m d = entered h spot w spot.role m d

-- a word past storage is a program check
abbrev pub fetched : {D : Type 0} → Setting D → NextCcw → Option Ccw → Memory → D → State D
fetched h spot None m d = fails h spot.role spot.at m d
fetched h spot (Some w) m d = obeyed h spot w (judged h.limit spot w) m d

-- ---- A byte that is moved

-- one byte further, which lay at this place
abbrev pub stepped : Position → Option ℕ → Position
stepped p before =
    record {
      at = p.at;
      started = p.started;
      word = p.word;
      count = p.count - 1;
      before = before;
      transfer = record {
        command = p.transfer.command;
        kind = p.transfer.kind;
        left = p.transfer.left - 1;
      };
    }

-- a byte past storage is a program check, and where keys do not match it is a protection check
abbrev pub given_at : {D : Type 0} → Setting D → Position → ℕ → Option Fault → Memory → D → State D
given_at h p a None m d =
    Moving (stepped p (Some a)) (put_byte m a (h.machine.gives d)) (h.machine.gave d)
given_at h p a (Some Protection) m d = stops h p.at protection_check p.count m d
given_at h p a (Some Addressing) m d = stops h p.at program_check p.count m d
given_at h p a (Some (Absent page)) m d = stops h p.at program_check p.count m d

-- a byte whose place cannot be found out is a program check
abbrev pub given_to : {D : Type 0} → Setting D → Position → Option ℕ → Memory → D → State D
given_to h p None m d = stops h p.at program_check p.count m d
given_to h p (Some a) m d = given_at h p a (fault_of m h.key (area Store a 1)) m d

-- the device takes the byte at an address, or the program ends with the check of that access
abbrev pub taken_at : {D : Type 0} → Setting D → Position → ℕ → (ℕ → ℕ) → Option Fault → Memory → D
    → State D
taken_at h p a load None m d = Moving (stepped p (Some a)) m (h.machine.took d (load a))
taken_at h p a load (Some Protection) m d = stops h p.at protection_check p.count m d
taken_at h p a load (Some Addressing) m d = stops h p.at program_check p.count m d
taken_at h p a load (Some (Absent page)) m d = stops h p.at program_check p.count m d

-- the device takes the byte at a place, if that is known
abbrev pub taken_from : {D : Type 0} → Setting D → Position → Option ℕ → (ℕ → ℕ) → Memory → D
    → State D
taken_from h p None load m d = stops h p.at program_check p.count m d
taken_from h p (Some a) load m d = taken_at h p a load (fault_of m h.key (area Fetch a 1)) m d

-- skip on input stores and tests nothing; on output it has no effect
abbrev pub byte_moved : {D : Type 0} → Setting D → Position → Option ℕ → (ℕ → ℕ) → Direction
    → Memory → D
    → State D
byte_moved h p place load Gives m d = if skips p.word
    then Moving (stepped p p.before) m (h.machine.gave d) else given_to h p place m d
byte_moved h p place load Takes m d = taken_from h p place load m d
byte_moved h p place load TakesUpTo m d = taken_from h p place load m d

-- ---- A transfer

-- an incorrect length is looked for but in an output of at most n bytes
abbrev pub is_exact : Direction → Bool
is_exact Gives = true
is_exact Takes = true
is_exact TakesUpTo = false

-- and reported unless the word has CD zero and SLI one
abbrev pub tells_length : Position → Bool
tells_length p = is_exact p.transfer.kind && not
    (not (chains_data p.word) && suppresses_length p.word)

-- the count is zero: with CD one the continuation is fetched before the device is asked further
abbrev pub counted_out : {D : Type 0} → Setting D → Position → ℕ → Memory → D → State D
counted_out h p left m d =
    if chains_data p.word
    then Fetching (record {
      at = p.word.next;
      role = Some p.transfer;
      jumped = false;
      started = p.started;
    }) m d
    else closes h (not (left == 0) && tells_length p) p m d

-- by the count that is left, and the bytes that the device has left or wants
abbrev pub moved : {D : Type 0} → Setting D → Position → Option ℕ → (ℕ → ℕ) → ℕ → ℕ → Memory → D
    → State D
moved h p place load zero left m d = counted_out h p left m d
moved h p place load (suc count) zero m d = closes h (tells_length p) p m d
moved h p place load (suc count) (suc left) m d = byte_moved h p place load p.transfer.kind m d

-- the bytes that the device has left or wants
abbrev pub rest : {D : Type 0} → Machine D → Position → D → ℕ
rest machine p d = if machine.done d then 0 else p.transfer.left

-- ---- Steps

-- one step of the walk
abbrev pub next : {D : Type 0} → Form → Setting D → State D → State D
next form h (Fetching spot m d) = fetched h spot (form.text m spot.at) m d
next form h (Moving p m d) =
    moved h p (form.place m p) (form.load m p) p.count (rest h.machine p d) m d
next form h (Over e m d) = Over e m d

-- so many steps
abbrev pub walk : {D : Type 0} → Form → Setting D → ℕ → State D → State D
walk form h zero s = s
walk form h (suc n) s = walk form h n (next form h s)

-- the walk comes from one state to another
pub record Reaches {D : Type 0} (form : Form) (h : Setting D) (from to : State D) : Type 0 where
  pub steps : ℕ
  pub comes : walk form h steps from ≡ to

-- where a program starts: its first word is a command, and no transfer in channel
abbrev pub start_spot : ℕ → NextCcw
start_spot at = record { at = at; role = None; jumped = true; started = 0 }

-- ---- How words are written, and what is fetched to read them

-- how the words of a program are written in storage
pub record Written : Type 0 where
  pub text : Memory → ℕ → Option Ccw
  -- where the block of a number begins of the area of a word
  pub block : Memory → Position → ℕ → Option ℕ
  pub word_asks : ℕ → List Test
  pub block_asks : Position → ℕ → List Test

-- the index of the next byte in the area of its word
abbrev pub index_of : Position → ℕ
index_of p = p.word.count - p.count

-- where the next byte lies
abbrev pub place_in : Written → Memory → Position → Option ℕ
place_in w m p = served (w.block m p) (index_of p) p.before

-- all is read when it is reached
abbrev pub live : Written → Form
live w = record { text = w.text; place = place_in w; load = λ m p a. byte_at m a }
