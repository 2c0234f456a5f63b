-- How a row comes to its operands, and what it answers where it does not.
use Rattle.std.specs.Prelude.{◌≡◌, ℕ, ◌+◌, ◌<◌, ◌≤◌, Bool, [], ◌∷◌, length, None}
use Rattle.std.specs.Prelude.{Result, Ok, Err}
use Rattle.s370_store.specs.Access.{Test}
use Rattle.s370_store.specs.Blocks.{MayAccess}
use Rattle.s370_store.specs.Memory.{Memory}
use Rattle.s370_store.specs.declared.Access.{Access}
use Rattle.s370_store.specs.declared.Access.TheVariants.{Fetch, Store}
use Rattle.s370_store.specs.declared.block.Block.{Block}
use Rattle.s370_rows.specs.declared.ending.Completion.{Completion}
use Rattle.s370_rows.specs.declared.held.HeldBlock.{HeldBlock}
use Rattle.s370_rows.specs.State.{State}
use Rattle.s370_rows.specs.Rows.{Row, fault_of, judged, outcome_of}

-- what a row may answer, and leave of a state: its outcome; or what this way to its operands says
-- where it is refused, and then leaves
abbrev pub MeetsBy : (Refused : Type 0) → (Row → (ℕ → Bool) → State → Refused → State → Type 0)
    → Row → (ℕ → Bool) → State → Result Completion Refused → State → Type 0
MeetsBy Refused refuses r present old (Ok ending) new =
    outcome_of old (judged old r) ≡ Ok (record { ending = ending; state = new })
MeetsBy Refused refuses r present old (Err why) new = refuses r present old why new

-- what a way to an operand may answer: the operand, where its test passes; or what it says of each
-- row that makes this test first
abbrev pub FindsOperand : (Refused : Type 0)
    → (Row → (ℕ → Bool) → State → Refused → State → Type 0) → State → (ℕ → Bool) → Test → ℕ
    → Result ℕ Refused → Type 0
FindsOperand Refused refuses m present t operand (Ok b) = (fault_of m (t ∷ []) ≡ None)
    × (b ≡ operand)
FindsOperand Refused refuses m present t operand (Err why) = (r : Row) → r.refused ≡ None
    → r.tests ≡ (t ∷ []) → refuses r present m why m

-- a block that is held for such operands: where addresses reach it, all of it may be accessed so,
-- and it is where it says
pub record IsHeld (access : Access) (is_placed : Block → Type 0) (m : Memory) (present : ℕ → Bool)
    (key : ℕ) (block : Block) : Type 0 where
  pub far : block.first ≤ 2147483648
  pub may_access : block.first < 16777216
      → MayAccess access (length m.bytes) m.keys present key block.first
  pub placed : block.first < 16777216 → is_placed block

-- the blocks that are held for operands, two for those that are fetched, and one for those that are
-- stored
pub record AreHeld (is_placed : Block → Type 0) (m : Memory) (present : ℕ → Bool) (key : ℕ)
    (held : HeldBlock) : Type 0 where
  pub fetched : IsHeld Fetch is_placed m present key held.fetched
  pub previous : IsHeld Fetch is_placed m present key held.previous
  pub stored : IsHeld Store is_placed m present key held.stored

-- bytes that lie in a block which is where it says
pub record LieIn (is_placed : Block → Type 0) (start count : ℕ) (block : Block) : Type 0 where
  pub placed : is_placed block
  pub begins : block.first ≤ start
  pub ends : start + count ≤ block.first + 2048
