-- The words of a guest's channel program: eight bytes in storage (GA22-7000, "Channel-Command
-- Word"), and with IDA a list of words of four bytes ("Channel Indirect Data Addressing").
use Rattle.std.specs.Prelude.{ℕ, ◌+◌, ◌*◌, ◌%◌, ◌^◌, ◌==◌, List, [], ◌∷◌, Option, None, Some}
use Rattle.std.specs.Prelude.{nat_lt, ◌||◌, ◌&&◌, if◌then◌else◌}
use Rattle.std.specs.Int.{w32, from_be_bytes}
use Rattle.std.specs.List.{slice_range}
use Rattle.s370_store.specs.declared.Access.TheVariants.{Fetch}
use Rattle.s370_store.specs.Access.{Test}
use Rattle.s370_channel.specs.declared.words.StoredCcw.{StoredCcw}
use Rattle.s370_channel.specs.Words.{ccw_of}
use Rattle.s370_walk.specs.declared.parts.Ccw.{Ccw}
use Rattle.s370_walk.specs.Blocks.{straight}
use Rattle.s370_store.specs.Memory.{Memory}
use Rattle.s370_walk.specs.Hardware.{is_in, area}
use Rattle.s370_walk.specs.Walk.{Written, is_jump, chains_data, chains_command, is_indirect}

-- an address further on: addresses have 24 bits
abbrev pub later : ℕ → ℕ → ℕ
later a n = (a + n) % 2 ^ 24

-- as if it led nowhere
abbrev pub bare_word : StoredCcw → Ccw
bare_word c = record {
  command = c.command;
  address = c.address;
  flags = c.flags;
  count = c.count;
  next = 0;
  skipped = 0;
}

-- a transfer in channel leads to its address, and its flags are ignored; another word leads eight
-- and sixteen bytes on, with zeros for the places that it cannot lead to
abbrev pub word_at : ℕ → StoredCcw → Ccw
word_at a c =
    record {
      command = c.command;
      address = c.address;
      count = c.count;
      flags = if is_jump (bare_word c) then record { bits = 0 } else c.flags;
      next = if is_jump (bare_word c) then c.address
          else if chains_data (bare_word c) || chains_command (bare_word c) then later a 8 else 0;
      skipped = if is_jump (bare_word c) then 0 else if chains_command (bare_word c) then later a 16
          else 0;
    }

-- the word at an address; words are fetched without a test of keys
abbrev pub guest_text : Memory → ℕ → Option Ccw
guest_text m a = if is_in m a 8 then Some (word_at a (ccw_of (slice_range m.bytes a (a + 8))))
    else None

-- the address that a word of a list says: bits 0 to 7 are zero, and but for the first it is that of
-- a block
abbrev pub said : ℕ → ℕ → Option ℕ
said number value = if nat_lt value (2 ^ 24) && (number == 0 || value % 2048 == 0) then Some value
    else None

-- the word of a list at an address; it is fetched without a test of keys
abbrev pub list_word : Memory → ℕ → Option ℕ
list_word m a = if is_in m a 4 then Some (from_be_bytes w32 (slice_range m.bytes a (a + 4)))
    else None

-- the start of a data block, if the word of the list can be fetched
abbrev pub said_by : ℕ → Option ℕ → Option ℕ
said_by number None = None
said_by number (Some value) = said number value

-- what the word of a number says of the list at an address
abbrev pub list_of : Memory → ℕ → ℕ → Option ℕ
list_of m list number = said_by number (list_word m (later list (4 * number)))

-- where the block of a number begins of a word's area
abbrev pub area_block : Memory → Ccw → ℕ → Option ℕ
area_block m w number = if is_indirect w then list_of m w.address number
    else straight w.address number

-- what is fetched to find that out
abbrev pub block_asks : Ccw → ℕ → List Test
block_asks w number = if is_indirect w then area Fetch (later w.address (4 * number)) 4 ∷ [] else []

-- words as a guest writes them in storage
abbrev pub guest_written : Written
guest_written =
    record {
      text = guest_text;
      block = λ m p number. area_block m p.word number;
      word_asks = λ a. area Fetch a 8 ∷ [];
      block_asks = λ p number. block_asks p.word number;
    }
