-- What a storage with absent pages shows.
use Rattle.std.proofs.Common.{ap}
use Rattle.std.specs.Prelude.{◌≡◌, ℕ, ◌+◌, ◌≤◌, List, Bool, false, length, slice_index_or}
use Rattle.s370_store.specs.Memory.{Memory, memory_of}
use Rattle.s370_store.specs.declared.block.Block.{Block}
use Rattle.s370_store.specs.declared.paged.PagedStorage.{PagedStorage}

-- its bytes, also those of absent pages
abbrev pub paged_bytes : PagedStorage → List ℕ
paged_bytes s = s.bytes.items

-- the key in storage of each of its blocks
abbrev pub paged_keys : PagedStorage → List ℕ
paged_keys s = s.keys.items

-- whether each of its pages is present
abbrev pub paged_flags : PagedStorage → List Bool
paged_flags s = s.present.items

-- a page is present if it is one of its pages and its flag says so
abbrev pub is_present : PagedStorage → ℕ → Bool
is_present s page = slice_index_or (paged_flags s) page false

-- both
abbrev pub paged_memory : PagedStorage → Memory
paged_memory s = memory_of (paged_bytes s) (paged_keys s)

-- a storage of as many bytes, of which the same pages are present
pub record PagedRest (s t : PagedStorage) : Type 0 where
  pub size : length (paged_bytes t) ≡ length (paged_bytes s)
  pub flags : paged_flags t ≡ paged_flags s

-- with the same keys
pub record PagedKeeps (s t : PagedStorage) : Type 0 where
  pub rest : PagedRest s t
  pub keys : paged_keys t ≡ paged_keys s

-- two steps that keep the size and the presence of pages keep them together
pub paged_rest_on : (s t u : PagedStorage) → PagedRest s t → PagedRest t u → PagedRest s u
paged_rest_on s t u before after =
    record { size = rw after.size before.size; flags = rw after.flags before.flags }

-- two steps that keep all but bytes keep it together
pub paged_keeps_on : (s t u : PagedStorage) → PagedKeeps s t → PagedKeeps t u → PagedKeeps s u
paged_keeps_on s t u before after =
    record { rest = paged_rest_on s t u before.rest after.rest; keys = rw after.keys before.keys }

-- a step that keeps the rest keeps which pages are present
pub paged_rest_present : (s t : PagedStorage) → PagedRest s t → is_present t ≡ is_present s
paged_rest_present s t rest = ap (λ flags page. slice_index_or flags page false) rest.flags

-- a block that lies in the storage stays in it
pub paged_placed_kept : (s t : PagedStorage) (block : Block) → PagedKeeps s t
    → block.first + 2048 ≤ length (paged_bytes s) → block.first + 2048 ≤ length (paged_bytes t)
paged_placed_kept s t block kept h = rw kept.rest.size h
