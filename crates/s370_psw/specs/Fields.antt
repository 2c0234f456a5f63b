-- The program status word of basic control mode, as fields of 64 bits of which bit 0 is the
-- leftmost (GA22-7000, "Program-Status-Word Format in BC Mode").
use Rattle.std.specs.Prelude.{ℕ, ◌+◌, ◌-◌, ◌*◌, ◌/◌, ◌%◌, ◌^◌, ◌==◌, nat_lt, Bool, List, cond}
use Rattle.std.specs.Prelude.{if◌then◌else◌}
use Rattle.std.specs.Int.{w64, from_be_bytes, to_be_bytes}

-- the fields of a PSW as the processor holds them
pub record Fields : Type 0 where
  pub system_mask : ℕ
  pub key : ℕ
  pub extended : Bool
  pub machine_check : Bool
  pub wait : Bool
  pub problem : Bool
  pub condition : ℕ
  pub program_mask : ℕ
  pub address : ℕ

-- bits i to j of a number of 64 bits
abbrev pub bits : ℕ → ℕ → ℕ → ℕ
bits n i j = n / 2 ^ (63 - j) % 2 ^ (j + 1 - i)

-- what a PSW that is loaded keeps of its 64 bits: all but 16 to 33
abbrev pub fields_of : ℕ → Fields
fields_of n = record {
  system_mask = bits n 0 7;
  key = bits n 8 11;
  extended = bits n 12 12 == 1;
  machine_check = bits n 13 13 == 1;
  wait = bits n 14 14 == 1;
  problem = bits n 15 15 == 1;
  condition = bits n 34 35;
  program_mask = bits n 36 39;
  address = bits n 40 63;
}

-- a flag as a bit
abbrev pub bit : Bool → ℕ
bit b = cond b 1 0

-- bits 0 to 15 of a PSW, in which its left fields and flags stand
abbrev pub left_of : Fields → ℕ
left_of f =
    f.system_mask * 2 ^ 8 + f.key * 2 ^ 4 + bit f.extended * 2 ^ 3 + bit f.machine_check * 2 ^ 2
    + bit f.wait * 2 + bit f.problem

-- the 64 bits of a PSW that is stored with an interruption code, in 16 to 31, and an instruction
-- length code, in 32 and 33
abbrev pub word_of : Fields → ℕ → ℕ → ℕ
word_of f code length_code =
    f.system_mask * 2 ^ 56 + f.key * 2 ^ 52 + bit f.extended * 2 ^ 51 + bit f.machine_check * 2 ^ 50
    + bit f.wait * 2 ^ 49 + bit f.problem * 2 ^ 48
    + code * 2 ^ 32 + length_code * 2 ^ 30 + f.condition * 2 ^ 28 + f.program_mask * 2 ^ 24 +
    f.address

-- the PSW that eight bytes of storage load, and the eight bytes that a PSW is stored as
abbrev pub loaded : List ℕ → Fields
loaded bytes = fields_of (from_be_bytes w64 bytes)

-- the eight bytes that a PSW is stored as, with an interruption code and a length code
abbrev pub stored : Fields → ℕ → ℕ → List ℕ
stored f code length_code = to_be_bytes w64 (word_of f code length_code)

-- bit k of the system mask is one
abbrev pub is_masked_in : Fields → ℕ → Bool
is_masked_in f k = f.system_mask / 2 ^ (7 - k) % 2 == 1

-- channels 0 to 5 have a bit each, and every higher channel has bit 6
abbrev pub enables_channel : Fields → ℕ → Bool
enables_channel f channel = if nat_lt channel 6 then is_masked_in f channel else is_masked_in f 6

-- external interruptions have bit 7
abbrev pub enables_external : Fields → Bool
enables_external f = is_masked_in f 7
