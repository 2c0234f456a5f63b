-- Storage and devices as a channel sees them.
use Rattle.std.specs.Prelude.{ℕ, zero, suc, ◌≡◌, Bool, List, [], ◌∷◌, length, slice_index, Option}
use Rattle.std.specs.Prelude.{is_none, Result, Ok, Err}
use Rattle.s370_store.specs.declared.Access.{Access}
use Rattle.s370_store.specs.declared.Access.TheVariants.{Fetch}
use Rattle.s370_store.specs.declared.Fault.{Fault}
use Rattle.s370_store.specs.declared.Page.{Page}
use Rattle.s370_store.specs.Access.{Test, first_fault, put, IsAbsent, Touches}
use Rattle.s370_store.specs.Memory.{Memory}
use Rattle.s370_walk.specs.declared.bits.UnitStatus.{UnitStatus}
use Rattle.s370_walk.specs.declared.parts.Order.{Order}
use Rattle.s370_walk.specs.declared.parts.Answer.{Answer}

-- the byte at an address
abbrev pub byte_at : Memory → ℕ → ℕ
byte_at m a = slice_index m.bytes a

-- memory with another byte at an address
abbrev pub put_byte : Memory → ℕ → ℕ → Memory
put_byte m a b = record { bytes = put m.bytes a (b ∷ []); keys = m.keys }

-- an access to so many bytes
abbrev pub area : Access → ℕ → ℕ → Test
area access start count = record { access = access; start = start; count = count }

-- what an access with this key fails with, if it does
abbrev pub fault_of : Memory → ℕ → Test → Option Fault
fault_of m key t = first_fault (length m.bytes) m.keys key (t ∷ [])

-- whether a range lies in storage: the key zero fits every block
abbrev pub is_in : Memory → ℕ → ℕ → Bool
is_in m start count = is_none (fault_of m 0 (area Fetch start count))

-- what a fetch says: what is wanted, or a page that is not present of those that it asks for
abbrev pub FetchTells : {A : Type 0} → ℕ → (ℕ → Bool) → List Test → Option A
    → Result (Option A) Page → Type 0
FetchTells size present asked wanted (Ok found) = found ≡ wanted
FetchTells size present asked wanted (Err page) = IsAbsent size present page.0 × Touches asked
    page.0

-- A device as a machine, whose functions are total: what the walk never asks for may be anything.
pub record Machine (D : Type 0) : Type 0 where
  -- what it answers to a command, and where it is then
  pub answer : D → Order → Answer
  pub started : D → Order → D
  -- whether it wants no more bytes, though it has fewer than it said
  pub done : D → Bool
  -- the next byte that it gives, and where it is then
  pub gives : D → ℕ
  pub gave : D → D
  -- where it is after a byte that it took
  pub took : D → ℕ → D
  -- the status that it ends with, and where it is then
  pub status : D → UnitStatus
  pub finished : D → D

-- so many bytes that it gives one by one, and where it is then
abbrev pub given : {D : Type 0} → Machine D → D → ℕ → List ℕ
given machine d zero = []
given machine d (suc n) = machine.gives d ∷ given machine (machine.gave d) n

-- a device after it has given a number of bytes
abbrev pub after_giving : {D : Type 0} → Machine D → D → ℕ → D
after_giving machine d zero = d
after_giving machine d (suc n) = after_giving machine (machine.gave d) n

-- where it is after bytes that it took one by one
abbrev pub after_taking : {D : Type 0} → Machine D → D → List ℕ → D
after_taking machine d [] = d
after_taking machine d (b ∷ bs) = after_taking machine (machine.took d b) bs
