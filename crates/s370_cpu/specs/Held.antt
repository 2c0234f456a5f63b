-- What an instruction may answer that is done only where nothing keeps it from being done.
use Rattle.std.specs.Prelude.{◌≡◌, ℕ, zero, suc, ◌+◌, ◌%◌, ◌<◌, ◌≤◌, Bool, true, false, length}
use Rattle.std.specs.Prelude.{slice_index, Option, Some, None, Ok, IfSome, IfNone}
use Rattle.s370_store.specs.Blocks.{MayFetch}
use Rattle.s370_rows.specs.declared.ending.Completion.{Completion}
use Rattle.s370_rows.specs.Ending.{GoesOn}
use Rattle.s370_rows.specs.State.{State}
use Rattle.s370_rows.specs.Rows.{Row, MeetsRow}
use Rattle.s370_cpu.specs.Laws.{rights_of}
use Rattle.s370_cpu.specs.Table.{unit}
use Rattle.s370_cpu.specs.Unit.{MeetsUnit}
use Rattle.s370_cpu.specs.declared.conclude.Stop.TheVariants.{Done as DoneStop}
use Rattle.s370_cpu.specs.declared.stepped.Stepped.{Stepped}
use Rattle.s370_cpu.specs.declared.stepped.Stepped.TheVariants.{Follows, Elsewhere, LeftOut}
use Rattle.s370_cpu.specs.declared.stepped.Stepped.TheVariants.{Unassigned}

-- the row, where one look at its operand grants it; or nothing is changed
abbrev pub MeetsAtOnce : Row → (ℕ → Bool) → State → Option Completion → State → Type 0
MeetsAtOnce r present old None new = new ≡ old
MeetsAtOnce r present old (Some ending) new = MeetsRow r present old (Ok ending) new

-- the row, where the processor goes on after it and nobody's rights change; or nothing is changed
abbrev pub MeetsSteady : Row → (ℕ → Bool) → State → Option Completion → State → Type 0
MeetsSteady r present old None new = new ≡ old
MeetsSteady r present old (Some ending) new =
    MeetsRow r present old (Ok ending) new × GoesOn ending × (rights_of new ≡ rights_of old)

-- where the next instruction is, if the step was done
abbrev pub next_after : Stepped → Option ℕ
next_after (Follows next) = Some next
next_after (Elsewhere next) = Some next
next_after LeftOut = None
next_after Unassigned = None

-- an instruction that follows is at this address
abbrev pub IsAt : ℕ → Stepped → Type 0
IsAt next (Follows address) = address ≡ next
IsAt next _ = Unit {0}

-- an instruction that follows is at most six bytes after this even address, and at an even one
abbrev pub FollowsIn : ℕ → Stepped → Type 0
FollowsIn start (Follows address) = (start ≤ address) × (address ≤ start + 6)
    × (start % 2 ≡ 0 → address % 2 ≡ 0)
FollowsIn start _ = Unit {0}

-- a step that was done is the unit, and answers where the next one begins; else nothing is changed;
-- and nobody's rights change
pub record StepsOrStays (present : ℕ → Bool) (old : State) (result : Option ℕ)
    (new : State) : Type 0 where
  pub done : IfSome result (λ _. MeetsUnit (unit old) present old DoneStop new)
  pub next : IfSome result (λ next. next ≡ new.cpu.psw.address)
  pub still : IfNone result (new ≡ old)
  pub rights : rights_of new ≡ rights_of old

-- a privileged instruction that was done is the unit, and answers where the next one begins; else
-- nothing is changed; and the keys in storage stay
pub record SupervisesOrStays (present : ℕ → Bool) (old : State) (result : Option ℕ)
    (new : State) : Type 0 where
  pub done : IfSome result (λ _. MeetsUnit (unit old) present old DoneStop new)
  pub next : IfSome result (λ next. next ≡ new.cpu.psw.address)
  pub still : IfNone result (new ≡ old)
  pub keys : new.keys ≡ old.keys

-- an MVCL with this second byte is at an address, and the key of the PSW lets it be fetched there
pub record IsLongMoveAt (m : State) (present : ℕ → Bool) (start second_byte : ℕ) : Type 0 where
  pub block : ℕ
  pub may_fetch : MayFetch (length m.bytes) m.keys present m.cpu.psw.key block
  pub begins : block ≤ start
  pub ends : start ≤ block + 2042
  pub even : start % 2 ≡ 0
  pub opcode : slice_index m.bytes start ≡ 0x0E
  pub second : slice_index m.bytes (start + 1) ≡ second_byte

-- so many units, one after another, each of which is done and changes nobody's rights
abbrev pub DoesUnits : ℕ → (ℕ → Bool) → State → State → Type 0
DoesUnits zero present m m' = m' ≡ m
DoesUnits (suc n) present m m' =
    (next : State) × MeetsUnit (unit m) present m DoneStop next × (rights_of next ≡ rights_of m)
    × DoesUnits n present next m'
