-- Bytes that are zero until they are written, page by page.
use Rattle.std.specs.List.{range_with_len}
use Rattle.std.specs.Prelude.{◌≡◌, ℕ, zero, suc, ◌+◌, ◌*◌, ◌/◌, ◌%◌, ◌<◌, ◌≤◌, ◌⊎◌, List, []}
use Rattle.std.specs.Prelude.{◌∷◌, length, map, slice_index}

-- where the byte at an address is among those of the written pages, by the place of each page
abbrev pub place_in : List ℕ → ℕ → ℕ
place_in places address = slice_index places (address / 4096) * 4096 + address % 4096

-- the byte at each address
unfoldable pub sparse_bytes : List ℕ → List ℕ → List ℕ
sparse_bytes written places =
    map (λ address. slice_index written (place_in places address))
    (range_with_len 0 (4096 * length places))

-- how many pages were not written
abbrev pub unwritten_count : List ℕ → ℕ
unwritten_count [] = 0
unwritten_count (zero ∷ places) = suc (unwritten_count places)
unwritten_count (suc _ ∷ places) = unwritten_count places

-- what is always so of the written pages, the place of each page among them, and the number of
-- bytes for which there is memory: the first is a page of zeros, for each page that was not
-- written; no two pages have another place in common; and there is memory for every page
pub record IsSparse (written places : List ℕ) (capacity : ℕ) : Type 0 where
  pub few : length places ≤ 4294967295
  pub fits : 4096 * (length places + 1) ≤ capacity
  pub whole : length written % 4096 ≡ 0
  pub blank : (k : ℕ) → k < 4096 → slice_index written k ≡ 0
  pub inside : (page : ℕ) → slice_index places page * 4096 + 4096 ≤ length written
  pub apart : (page other : ℕ) → slice_index places page ≡ slice_index places other
      → (page ≡ other) ⊎ (slice_index places page ≡ 0)
  pub left : length written + 4096 * unwritten_count places ≤ 4096 * (length places + 1)
