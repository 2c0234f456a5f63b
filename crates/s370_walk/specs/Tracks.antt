-- To which positions the obeying of a word comes: the byte before the next one lies where a list of
-- addresses has it.
use Rattle.std.specs.Prelude.{ℕ, ◌+◌, ◌*◌, ◌%◌, ◌<◌, ◌≤◌, ◌≡◌, ◌==◌, Bool, true, false, ◌&&◌, not}
use Rattle.std.specs.Prelude.{Option, None, Some, is_some}
use Rattle.s370_walk.specs.declared.parts.Position.{Position}
use Rattle.s370_walk.specs.declared.parts.Ccw.{Ccw}
use Rattle.s370_walk.specs.Walk.{index_of, is_indirect, is_jump}
use Rattle.s370_walk.specs.Stuck.{is_skipped}

-- a transfer in channel has no area, and a list off a word boundary has no words
abbrev pub has_area : Ccw → Bool
has_area w = not (is_jump w) && not (is_indirect w && not (w.address % 4 == 0))

-- the byte before the one of index k lies at b, as this list has it
pub record IsPast (list : ℕ → Option ℕ) (b k : ℕ) : Type 0 where
  pub some : 0 < k
  pub first : ℕ
  pub first_is : list 0 ≡ Some first
  pub fits : (b + 1) % 2048 ≡ (first + k) % 2048
  -- each block that was begun has its word of the list
  pub behind : (i : ℕ) → i * 2048 < first % 2048 + k → is_some (list i) ≡ true

-- the byte before the next one lies where the list has it
abbrev pub IsTrackedBefore : (ℕ → Option ℕ) → Position → Option ℕ → Type 0
IsTrackedBefore list p None = p.count ≡ p.word.count
IsTrackedBefore list p (Some b) = IsPast list b (index_of p)

-- the position is within its word, and the list has the byte before it
pub record IsTracked (lists : ℕ → ℕ → Option ℕ) (p : Position) : Type 0 where
  pub within : p.count ≤ p.word.count
  pub has : has_area p.word ≡ true
  pub before : is_skipped p p.transfer.kind ≡ false → IsTrackedBefore (lists p.at) p p.before

-- a list has what is asked of it: where each word before one says an address, and a byte of its
-- block is counted
pub record IsListOf (list : ℕ → Option ℕ) (f : ℕ → Option ℕ) (count : ℕ) : Type 0 where
  pub agrees : (j : ℕ) → 0 < count → ((i : ℕ) → i < j → is_some (list i) ≡ true)
      → ((first : ℕ) → 0 < j → list 0 ≡ Some first → j * 2048 < first % 2048 + count) → list j ≡ f j
  pub aligned : (j a : ℕ) → 0 < j → list j ≡ Some a → a % 2048 ≡ 0
