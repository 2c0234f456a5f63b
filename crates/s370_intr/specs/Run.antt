-- What a running processor does in at most n units of operation (docs/MACHINE.md, "Units, states
-- and runs"), and what code may say of it whose storage has to bring its pages.
use Rattle.std.specs.Prelude.{◌≡◌, ℕ, ◌+◌, ◌*◌, ◌%◌, ◌<◌, ◌≤◌, ◌⊎◌, zero, suc, Bool, true}
use Rattle.std.specs.Prelude.{List, [], ◌∷◌, length, Result, Ok, Err, ⊤}
use Rattle.s370_store.specs.Blocks.{MayFetch}
use Rattle.s370_store.specs.Memory.{Memory}
use Rattle.s370_store.specs.declared.block.Block.{Block}
use Rattle.s370_store.specs.declared.supply.FramesOut.{FramesOut as Lack}
use Rattle.s370_intr.specs.declared.code_blocks.CodeBlocks.{CodeBlocks}
use Rattle.s370_intr.specs.declared.next.Next.{Next}
use Rattle.s370_intr.specs.declared.next.Next.TheVariants.{Stops, Accepts, AcceptsStatus, Instructs}
use Rattle.s370_intr.specs.declared.next.Reason.{Reason}
use Rattle.s370_intr.specs.declared.next.Reason.TheVariants.{Count, FramesOut}
use Rattle.s370_rows.specs.declared.cpu.Cpu.{Cpu}
use Rattle.s370_rows.specs.State.{State}
use Rattle.s370_subchannels.specs.declared.subchannel.Subchannel.{Subchannel}
use Rattle.s370_intr.specs.declared.pending.Pending.{Pending}
use Rattle.s370_intr.specs.Units.{Core, core_of, look, unit_at, Needs, NeedsAt}

-- what a run leaves, how many units it did, and why it did no more
pub record Run : Type 0 where
  pub core : Core
  pub units : ℕ
  pub reason : Reason

-- one unit more
abbrev pub one_more : Run → Run
one_more r = record r { units = 1 + r.units }

-- it looks before each unit
abbrev pub looked : Next → Core → Run → Run
looked (Stops reason) c rest = record { core = c; units = 0; reason = reason }
looked (Accepts taken) c rest = one_more rest
looked (AcceptsStatus status) c rest = one_more rest
looked Instructs c rest = one_more rest

-- at most n units of a running processor
abbrev pub run : ℕ → Core → Run
run zero c = record { core = c; units = 0; reason = Count }
run (suc n) c = looked (look c) c (run n (unit_at (look c) c))

-- n units of a processor that has an instruction next, which leave it with an instruction next,
-- whatever is pending
abbrev pub DoesInstructions : ℕ → State → State → Type 0
DoesInstructions n m m' = (pending : Pending) → (list : List Subchannel) →
    let before = core_of m pending list in
    let after = core_of m' pending list in
    look before ≡ Instructs → (run n before ≡ record { core = after; units = n; reason = Count })
    × (look after ≡ Instructs)

-- n units, at most so many, take a running processor to this core; where it is said to be plain, an
-- instruction is next
pub record RunsTo (limit n : ℕ) (is_plain : Bool) (before after : Core) : Type 0 where
  pub done : run n before ≡ record { core = after; units = n; reason = Count }
  pub plain : is_plain ≡ true → look after ≡ Instructs
  pub within : n ≤ limit

-- ---- the block from which instructions are fetched

-- instructions may be fetched from it with this key, and their ends are below 16 MiB
pub record IsFetched (is_placed : Block → Type 0) (m : Memory) (present : ℕ → Bool) (key : ℕ)
    (block : Block) : Type 0 where
  pub low : block.first + 2048 < 16777216
  pub may_fetch : MayFetch (length m.bytes) m.keys present key block.first
  pub placed : is_placed block

-- and it has the next one, however long that is
pub record HasNext (is_placed : Block → Type 0) (m : Memory) (present : ℕ → Bool) (cpu : Cpu)
    (block : Block) : Type 0 where
  pub fetched : IsFetched is_placed m present cpu.psw.key block
  pub begins : block.first ≤ cpu.psw.address
  pub ends : cpu.psw.address ≤ block.first + 2042
  pub even : cpu.psw.address % 2 ≡ 0

-- from both blocks instructions may be fetched, and the first has the one at an address, however
-- long that is
pub record AreAt (is_placed : Block → Type 0) (m : Memory) (present : ℕ → Bool) (key next : ℕ)
    (blocks : CodeBlocks) : Type 0 where
  pub current : IsFetched is_placed m present key blocks.current
  pub previous : IsFetched is_placed m present key blocks.previous
  pub begins : blocks.current.first ≤ next
  pub ends : next ≤ blocks.current.first + 2042
  pub even : next % 2 ≡ 0

-- ---- pages that are brought

-- a page of the storage is needed, and there is no room for it
pub record IsLacking (needs : ℕ → Type 0) (size : ℕ) (is_short : ℕ → Type 0) : Type 0 where
  pub page : ℕ
  pub inside : page * 4096 < size
  pub needed : needs page
  pub short : is_short page

-- each page of a list is needed
abbrev pub AllNeeded : (ℕ → Type 0) → List ℕ → Type 0
AllNeeded needs [] = Unit {0}
AllNeeded needs (page ∷ pages) = needs page × AllNeeded needs pages

-- what a unit may answer over a storage that brings its pages: the unit; or nothing changed, and a
-- page is lacking
abbrev pub SuppliesUnit : Next → Core → Result ⊤ Lack → Core → (ℕ → Type 0) → Type 0
SuppliesUnit l old (Ok _) new is_short = new ≡ unit_at l old
SuppliesUnit l old (Err _) new is_short = (new ≡ old)
    × IsLacking (NeedsAt l old) (length old.processor.bytes) is_short

-- ---- what is reported of a run

-- of n units so many were done, and the next one needs a page for which there is no room
pub record IsCut (n : ℕ) (old : Core) (reported : Run) (is_short : ℕ → Type 0) : Type 0 where
  pub done : run reported.units old ≡ record reported { reason = Count }
  pub fewer : reported.units < n
  pub lacking : IsLacking (Needs reported.core) (length reported.core.processor.bytes) is_short

-- what a run reports for each reason of its end
abbrev pub TellsFor : Reason → ℕ → Core → Run → (ℕ → Type 0) → Type 0
TellsFor FramesOut n old reported is_short = IsCut n old reported is_short
TellsFor _ n old reported is_short = run n old ≡ reported

-- a run of at most n units, or so much of it as there was room for
abbrev pub TellsRun : ℕ → Core → Run → (ℕ → Type 0) → Type 0
TellsRun n old reported is_short = TellsFor reported.reason n old reported is_short

-- a page that a run needed: one of its units did, or the one for which there was no room
abbrev pub RunNeeds : Core → ℕ → Reason → ℕ → Type 0
RunNeeds old units reason page =
    (k : ℕ) × ((k < units) ⊎ ((k ≡ units) × (reason ≡ FramesOut))) × Needs (run k old).core page

-- what each unit of a run brings, from this one on: at most nine pages, and the unit needs them
abbrev pub EachBrings : Core → ℕ → List (List ℕ) → Type 0
EachBrings old unit [] = Unit {0}
EachBrings old unit (pages ∷ units) = AllNeeded (Needs (run unit old).core) pages
    × (length pages ≤ 9) × EachBrings old (suc unit) units
