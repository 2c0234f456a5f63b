-- A user's storage as bytes, of which pages are put back.
use Rattle.std.specs.List.{range_with_len}
use Rattle.std.specs.Prelude.{◌≡◌, ℕ, ◌+◌, ◌/◌, ◌≤◌, ◌==◌, Bool, true}
use Rattle.std.specs.Prelude.{false, List, [], ◌∷◌, if◌then◌else◌, length, map, slice_index}
use Rattle.std.specs.Prelude.{slice_index_or}
use Rattle.cp_dat.specs.declared.dat.Dat.{Dat}
use Rattle.cp_dat.specs.Lent.{lent_keys, lent_pool, user_of}
use Rattle.cp_dat.specs.Supplied.{Stands, SuppliedUnits}

-- a page is wanted where its flag says so
abbrev pub is_wanted : List Bool → ℕ → Type 0
is_wanted wanted page = slice_index_or wanted page false ≡ true

-- each of these pages is such, in each unit
abbrev pub AllAre : (ℕ → Type 0) → List ℕ → Type 0
AllAre is_such [] = Unit {0}
AllAre is_such (page ∷ pages) = is_such page × AllAre is_such pages

-- each page of each unit is such
abbrev pub EachAre : (ℕ → Type 0) → List (List ℕ) → Type 0
EachAre is_such [] = Unit {0}
EachAre is_such (pages ∷ units) = AllAre is_such pages × EachAre is_such units

-- one if the test holds, else zero
abbrev pub counted : Bool → ℕ
counted true = 1
counted false = 0

-- how often a page is among these
abbrev pub times_among : ℕ → List ℕ → ℕ
times_among page [] = 0
times_among page (other ∷ pages) = counted (other == page) + times_among page pages

-- how often a page came in these units
abbrev pub times_in : ℕ → List (List ℕ) → ℕ
times_in page [] = 0
times_in page (pages ∷ units) = times_among page pages + times_in page units

-- just such pages of the user came, in units, each at most so often, and no key was set: the same
-- user of the same frames, with as many bytes, where each other user has the bytes he had
pub record CameOnly (old : Dat) (is_such : ℕ → Type 0) (most : ℕ) (new : Dat) : Type 0 where
  pub units : List (List ℕ)
  pub paged_in : SuppliedUnits old units new
  pub only : EachAre is_such units
  pub often : (page : ℕ) → times_in page units ≤ most
  pub keys : lent_keys new ≡ lent_keys old

-- each wanted page is in a frame or in a slot
abbrev pub StandAll : Dat → List Bool → Type 0
StandAll d wanted = (page : ℕ) → is_wanted wanted page
    → Stands (lent_pool d).supply (user_of d) page

-- the byte at an address: of a wanted page that of one list, of another page that of the other
abbrev pub byte_over : List Bool → List ℕ → List ℕ → ℕ → ℕ
byte_over wanted old from address =
    if (slice_index_or wanted (address / 4096) false) then (slice_index from address)
    else (slice_index old address)

-- these bytes, but of the wanted pages those of another list, which has as many
unfoldable pub written_over : List Bool → List ℕ → List ℕ → List ℕ
written_over wanted old from = map (byte_over wanted old from) (range_with_len 0 (length from))
