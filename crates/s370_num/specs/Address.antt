-- Storage addresses, words and device addresses as whole numbers.
use Rattle.std.specs.Prelude.{ℕ, ◌+◌, ◌/◌, ◌%◌, ◌^◌, nat_lt, if◌then◌else◌, List, [], ◌∷◌, ◌++◌}

-- storage addresses have 24 bits: what does not fit is dropped from the left
abbrev pub storage_address : ℕ → ℕ
storage_address n = n % 2 ^ 24

-- a device address is a channel in the left eight of its sixteen bits, and a unit of that channel
-- in the right eight
abbrev pub channel_of : ℕ → ℕ
channel_of device = device / 256

-- the character of a hexadecimal digit, a capital from ten on
abbrev pub digit_of : ℕ → ℕ
digit_of d = if nat_lt d 10 then 48 + d else 55 + d

-- the two hexadecimal digits of a byte
abbrev pub two_digits : ℕ → List ℕ
two_digits byte = digit_of (byte / 16) ∷ digit_of (byte % 16) ∷ []

-- a storage address as six digits
abbrev pub address_text : ℕ → List ℕ
address_text address = two_digits (address / 65536) ++ two_digits (address / 256 % 256)
    ++ two_digits (address % 256)

-- a word as eight digits
abbrev pub word_text : ℕ → List ℕ
word_text word =
    two_digits (word / 16777216) ++ two_digits (word / 65536 % 256) ++ two_digits (word / 256 % 256)
    ++ two_digits (word % 256)

-- a device address as operators write it: three digits, or four where the channel needs two
abbrev pub device_text : ℕ → List ℕ
device_text device =
    (if nat_lt device 4096 then digit_of (device / 256) ∷ [] else two_digits (device / 256))
    ++ two_digits (device % 256)
