-- Channel words, as what their bits say (GA22-7000, "Channel-Command Word", "Channel-Status Word"
-- and "Channel-Address Word").
use Rattle.std.specs.Prelude.{ℕ, ◌+◌, ◌*◌, ◌/◌, ◌%◌, ◌^◌, ◌==◌, ◌&&◌, ◌++◌, ◌∷◌, [], List}
use Rattle.std.specs.Prelude.{slice_index, drop, Option, None, Some, if◌then◌else◌}
use Rattle.byteorder.specs.Endian.{big_number, big_bytes}
use Rattle.s370_num.specs.Address.{storage_address}
use Rattle.s370_walk.specs.declared.parts.Ending.{Ending}
use Rattle.s370_channel.specs.declared.words.StoredCcw.{StoredCcw}
use Rattle.s370_channel.specs.declared.words.Csw.{Csw}
use Rattle.s370_channel.specs.declared.words.Caw.{Caw}

-- command 0-7, data address 8-31, flags 32-39, count 48-63; bits 40-47 are ignored
abbrev pub ccw_of : List ℕ → StoredCcw
ccw_of bytes =
    record {
      command = record { code = slice_index bytes 0 };
      address = storage_address (big_number 3 (drop 1 bytes));
      flags = record { bits = slice_index bytes 4 };
      count = big_number 2 (drop 6 bytes);
    }

-- the eight bytes of a channel command word
abbrev pub ccw_bytes : StoredCcw → List ℕ
ccw_bytes w = (w.command.code ∷ []) ++ big_bytes 3 w.address ++ (w.flags.bits ∷ 0 ∷ [])
    ++ big_bytes 2 w.count

-- key 0-3, command address 8-31, unit status 32-39, channel status 40-47, count 48-63
abbrev pub csw_of : List ℕ → Csw
csw_of bytes =
    record {
      key = slice_index bytes 0 / 16;
      address = big_number 3 (drop 1 bytes);
      unit = record { bits = slice_index bytes 4 };
      channel = record { bits = slice_index bytes 5 };
      count = big_number 2 (drop 6 bytes);
    }

-- Of the command address the low 24 bits are stored, which are what a storage address has.
abbrev pub csw_bytes : Csw → List ℕ
csw_bytes w =
    (w.key * 16 ∷ []) ++ big_bytes 3 (storage_address w.address)
    ++ (w.unit.bits ∷ w.channel.bits ∷ [])
    ++ big_bytes 2 w.count

-- the status word of a program: the command address, of 32 bits, is that of the last word used or
-- the failing one, plus 8
abbrev pub ending_word : ℕ → Ending → Csw
ending_word key e =
    record {
      key = key;
      address = (e.at + 8) % 2 ^ 32;
      unit = e.unit;
      channel = e.channel;
      count = e.count;
    }

-- key 0-3, zeros 4-7, address 8-31 on a doubleword
abbrev pub caw_of : ℕ → Option Caw
caw_of word =
    if word / 2 ^ 24 % 16 == 0 && word % 8 == 0
    then Some (record { key = word / 2 ^ 28; address = word % 2 ^ 24 }) else None
