-- Where the bytes of a word's area lie: in blocks of 2048 bytes, one after the other in each block
-- (GA22-7000, "Channel Indirect Data Addressing").
use Rattle.std.specs.Prelude.{ℕ, ◌+◌, ◌*◌, ◌/◌, ◌%◌, ◌^◌, ◌==◌, Bool, true, Option, None, Some}
use Rattle.std.specs.Prelude.{nat_lt, if◌then◌else◌}

-- whether the next byte begins a block: it is the first of all, or the byte before it was the last
-- of its block
abbrev pub begins_block : Option ℕ → Bool
begins_block None = true
begins_block (Some before) = before % 2048 == 2047

-- the number of the block that byte k of an area begins
abbrev pub block_number : ℕ → ℕ
block_number k = (k + 2047) / 2048

-- the place after a place
abbrev pub after : Option ℕ → Option ℕ
after None = None
after (Some before) = if nat_lt (before + 1) (2 ^ 32) then Some (before + 1) else None

-- where byte k lies: where the list of blocks says, if it begins one, and else after the byte
-- before it
abbrev pub served : (ℕ → Option ℕ) → ℕ → Option ℕ → Option ℕ
served list k before = if begins_block before then list (block_number k) else after before

-- the list of an area that is one piece of storage: so byte k lies at address + k
abbrev pub straight : ℕ → ℕ → Option ℕ
straight address number =
    if number == 0 then Some address
    else if nat_lt ((address / 2048 + number) * 2048) (2 ^ 32)
    then Some ((address / 2048 + number) * 2048) else None
