-- Frames, slots and storages as bytes.
use Rattle.std.specs.Prelude.{◌≡◌, ◌/◌, ◌==◌, ℕ, zero, suc, Bool, true, false, List, [], ◌∷◌, ◌++◌}
use Rattle.std.specs.Prelude.{length, take, drop}
use Rattle.std.specs.List.{list_all}
use Rattle.saved_bytes.specs.Codes.{each, flag, number, optional}
use Rattle.cp_frames.specs.declared.numbers.UserPage.{UserPage}
use Rattle.cp_frames.specs.Layout.{FrameSupply, Pool}

-- ---- where pages are

-- the bytes of a user's page number
abbrev pub page_bytes : UserPage → List ℕ
page_bytes p = number p.user ++ number p.page.0

-- the bytes of which page is where
abbrev pub supply_bytes : FrameSupply → List ℕ
supply_bytes s =
    each (optional page_bytes) s.owners
    ++ (each (optional page_bytes) s.slots
    ++ (each flag s.pins ++ (each number s.order ++ number s.page_ins)))

-- ---- what is in them

-- whether each byte of a page is zero
abbrev pub is_zero : List ℕ → Bool
is_zero page = list_all (λ byte. byte == 0) page

-- the content of a page: a mark alone where each byte is zero
abbrev pub packed_if : Bool → List ℕ → List ℕ
packed_if true page = 0 ∷ []
packed_if false page = 1 ∷ page

-- the bytes of a page's content
abbrev pub packed : List ℕ → List ℕ
packed page = packed_if (is_zero page) page

-- so many pages, and what is left after them
abbrev pub pages_bytes : ℕ → List ℕ → List ℕ
pages_bytes zero rest = rest
pages_bytes (suc pages) rest = packed (take 4096 rest) ++ pages_bytes pages (drop 4096 rest)

-- how many bytes a storage has, and its pages
abbrev pub storage_bytes : List ℕ → List ℕ
storage_bytes storage = number (length storage) ++ pages_bytes (length storage / 4096) storage

-- the bytes of all storages and frames
abbrev pub pool_bytes : Pool → List ℕ
pool_bytes p = supply_bytes p.supply ++ each storage_bytes p.storages

-- bytes are those of one pool
abbrev pub IsOneBySaved : Type 0
IsOneBySaved = (one other : Pool) → pool_bytes one ≡ pool_bytes other → one ≡ other
