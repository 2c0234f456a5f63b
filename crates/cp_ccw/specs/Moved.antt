-- Lists of addresses that are given real ones, from the first entry on.
use Rattle.std.specs.Prelude.{◌≡◌, ℕ, ◌<◌, ◌≤◌, List, length, slice_index_or, Option, None}
use Rattle.s370_walk.specs.Mapped.{real_place}
use Rattle.cp_needs.specs.declared.program.Node.{Node}
use Rattle.cp_needs.specs.Table.{program_of}

-- the first entries have real addresses, the others are as they were
pub record AreReal (real : ℕ → Option ℕ) (n : ℕ) (old new : List (Option ℕ)) : Type 0 where
  pub size : length new ≡ length old
  pub done : (k : ℕ) → k < n
      → slice_index_or new k None ≡ real_place real (slice_index_or old k None)
  pub left : (k : ℕ) → n ≤ k → slice_index_or new k None ≡ slice_index_or old k None

-- the same words with real addresses in place of the guest's
pub record AreRealNodes (real : ℕ → Option ℕ) (old new : List Node) : Type 0 where
  pub words : (a : ℕ) → (program_of new).words a ≡ (program_of old).words a
  pub lists : (a j : ℕ) → (program_of new).lists a j ≡ real_place real ((program_of old).lists a j)

-- the first nodes have real addresses, the others are as they were
pub record AreRealBelow (real : ℕ → Option ℕ) (n : ℕ) (old new : List Node) : Type 0 where
  pub size : length new ≡ length old
  pub words : (a : ℕ) → (program_of new).words a ≡ (program_of old).words a
  pub done : (a j : ℕ) → a < n
      → (program_of new).lists a j ≡ real_place real ((program_of old).lists a j)
  pub left : (a j : ℕ) → n ≤ a → (program_of new).lists a j ≡ (program_of old).lists a j
