-- Files of the host: what a call leaves of the count of failures, and of the bytes.
use Rattle.std.specs.Prelude.{◌≡◌, ℕ, ◌+◌, ◌-◌, ◌^◌, ◌≤◌, min, List, length, take, Option, Result}
use Rattle.std.specs.Prelude.{Ok, Err}
use Rattle.std.specs.Io.KnownBytes.{Appends, Consumes}
use Rattle.s370_num.specs.declared.host.HostFault.{HostFault}
use Rattle.s370_num.specs.declared.host.HostFault.TheVariants.{Memory, Device}

-- the count after one more failure; it stays at its greatest value
abbrev pub one_more : ℕ → ℕ
one_more n = min (n + 1) (2 ^ 64 - 1)

-- a failure of the device is counted, and reports the count; lack of memory is not
abbrev pub IsCounted : ℕ → ℕ → HostFault → Type 0
IsCounted old new Memory = new ≡ old
IsCounted old new (Device k) = (new ≡ one_more old) × (k ≡ new)

-- the count after a call: the same where the call succeeded
abbrev pub Counts : {A : Type 0} → ℕ → ℕ → Result A HostFault → Type 0
Counts old new (Ok a) = new ≡ old
Counts old new (Err fault) = IsCounted old new fault

-- some of these bytes, a beginning of them, were appended
abbrev pub AppendsFront : Option (List ℕ) → Option (List ℕ) → List ℕ → Type 0
AppendsFront old new bytes = (n : ℕ) × (n ≤ length bytes) × Appends old new (take n bytes)

-- some bytes were read, none out of turn
abbrev pub ReadsFront : Option (List ℕ) → Option (List ℕ) → Type 0
ReadsFront old new = (bytes : List ℕ) × Consumes old new bytes
