-- What a storage on trial shows.
use Rattle.std.specs.Prelude.{◌≡◌, ℕ, ◌+◌, ◌/◌, ◌%◌, ◌≤◌, ◌⊎◌, List, [], ◌∷◌, Bool, true, false}
use Rattle.std.specs.Prelude.{suc, length, slice_index_or, Contains}
use Rattle.s370_store.specs.Memory.{Memory, memory_of}
use Rattle.s370_store.specs.declared.block.Block.{Block}
use Rattle.channel_trial.specs.Pages.{IsIn, KeepsUntouched}
use Rattle.cp_dat.specs.declared.dat.Dat.{Dat}
use Rattle.cp_dat.specs.Copies.{written_over}
use Rattle.cp_dat.specs.Lent.{lent_bytes}
use Rattle.cp_trial.specs.declared.storage.TrialStorage.{TrialStorage}
use Rattle.cp_trial.specs.declared.storage.TouchedPages.{TouchedPages}

-- its bytes: of pages that were touched its own, of the others those of the storage that is tried
abbrev pub trial_bytes : TrialStorage → List ℕ
trial_bytes s = written_over s.touched.items (lent_bytes s.source.now) s.bytes

-- the key in storage of each of its blocks
abbrev pub trial_keys : TrialStorage → List ℕ
trial_keys s = s.keys.items

-- both
abbrev pub trial_memory : TrialStorage → Memory
trial_memory s = memory_of (trial_bytes s) (trial_keys s)

-- whether each of its pages was touched
abbrev pub trial_flags : TrialStorage → List Bool
trial_flags s = s.touched.items

-- whether a page was touched
abbrev pub is_touched : TrialStorage → ℕ → Bool
is_touched s page = slice_index_or (trial_flags s) page false

-- as many bytes; the same pages were touched; the others are as they were
pub record TrialRest (s t : TrialStorage) : Type 0 where
  pub size : length (trial_bytes t) ≡ length (trial_bytes s)
  pub flags : trial_flags t ≡ trial_flags s
  pub untouched : KeepsUntouched (is_touched t) (trial_bytes s) (trial_bytes t)

-- with the same keys
pub record TrialKeeps (s t : TrialStorage) : Type 0 where
  pub rest : TrialRest s t
  pub keys : trial_keys t ≡ trial_keys s

-- a block that lies in a page that was touched
pub record IsTouchedBlock (s : TrialStorage) (block : Block) : Type 0 where
  pub inside : block.first + 2048 ≤ length (trial_bytes s)
  pub whole : block.first % 2048 ≡ 0
  pub touched : is_touched s (block.first / 4096) ≡ true

-- how many pages were not touched
abbrev pub untouched_count : List Bool → ℕ
untouched_count [] = 0
untouched_count (true ∷ flags) = untouched_count flags
untouched_count (false ∷ flags) = suc (untouched_count flags)

-- from one to the other pages were touched: such alone
pub record TrialTouches (s : TrialStorage) (is_such : ℕ → Type 0) (t : TrialStorage) : Type 0 where
  pub size : length (trial_bytes t) ≡ length (trial_bytes s)
  pub stays : (page : ℕ) → is_touched s page ≡ true → is_touched t page ≡ true
  pub paged_in : (page : ℕ) → is_touched t page ≡ true → (is_touched s page ≡ true) ⊎ is_such page
  pub untouched : KeepsUntouched (is_touched t) (trial_bytes s) (trial_bytes t)

-- just these pages were touched
pub record TrialBrought (s : TrialStorage) (pages : List ℕ) (t : TrialStorage) : Type 0 where
  pub touches : TrialTouches s (Contains pages) t
  pub held : (page : ℕ) → Contains pages page → is_touched t page ≡ true

-- just the pages of these units were touched
abbrev pub TrialCame : TrialStorage → List (List ℕ) → TrialStorage → Type 0
TrialCame s units t = TrialTouches s (IsIn units) t

-- of each page whether a dry run touched it
abbrev pub touched_flags : TouchedPages → List Bool
touched_flags pages = pages.touched.items

-- the bytes that a dry run leaves of a storage
abbrev pub tried_bytes : Dat → TouchedPages → List ℕ
tried_bytes storage pages =
    written_over pages.touched.items (lent_bytes storage) pages.bytes
