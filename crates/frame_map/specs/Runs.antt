-- Runs of places: free ones, or such as have successive pages of one user; and the lines that the
-- map has of them.
use Rattle.std.specs.Prelude.{◌≡◌, ◌==◌, ◌&&◌, ◌+◌, ◌-◌, ◌*◌, ◌<◌, ◌≤◌, ℕ, Bool, true, false}
use Rattle.std.specs.Prelude.{if◌then◌else◌, List, [], ◌∷◌, ◌++◌, codes, count_by, drop, is_none}
use Rattle.std.specs.Prelude.{length, slice_index_or, take, Option, Some, None}
use Rattle.std.specs.Fmt.{decimal}
use Rattle.s370_num.specs.Address.{address_text, storage_address}
use Rattle.user_names.specs.Users.{name_of}
use Rattle.frame_map.specs.declared.places.Owner.{Owner}

-- a place belongs to the run of the one before it: both are free, or it has the next page of the
-- same user
abbrev pub follows : Option Owner → Option Owner → Bool
follows None None = true
follows None (Some next) = false
follows (Some before) None = false
follows (Some before) (Some next) = (before.user == next.user) && (before.page + 1 == next.page)

-- the first places, so many of them, are one run
abbrev pub AreTogether : List (Option Owner) → ℕ → Type 0
AreTogether places count = (i : ℕ) → i + 1 < count
    → follows (slice_index_or places i None) (slice_index_or places (i + 1) None) ≡ true

-- they are the longest run that begins there
pub record IsLongestRun (places : List (Option Owner)) (count : ℕ) : Type 0 where
  pub some : 0 < count
  pub most : count ≤ length places
  pub together : AreTogether places count
  pub longest : count < length places
      → follows (slice_index_or places (count - 1) None) (slice_index_or places count None) ≡ false

-- ---- lines

-- the address of a page
abbrev pub page_text : ℕ → List ℕ
page_text page = address_text (storage_address (page * 4096))

-- the line of one place: `FRAME 3 A 001000`
abbrev pub place_line : List ℕ → ℕ → List ℕ → ℕ → List ℕ
place_line word first name page =
    word ++ (codes " " ++ (decimal first ++ (codes " " ++ (name ++ (codes " "
    ++ (page_text page ++ 10 ∷ []))))))

-- the end of the line of several, with the first page and the last
unfoldable pub pages_end : ℕ → ℕ → List ℕ
pages_end page end = codes " " ++ (page_text page ++ (codes "-" ++ (page_text end ++ 10 ∷ [])))

-- the line of several: `FRAMES 3-4 A 001000-002000`
abbrev pub places_line : List ℕ → ℕ → ℕ → List ℕ → ℕ → ℕ → List ℕ
places_line word first last name page end =
    word ++ (codes "S " ++ (decimal first ++ (codes "-" ++ (decimal last ++ (codes " "
    ++ (name ++ pages_end page end))))))

-- the line of a run from this place on, of which there are so many more, by its first page and its
-- last; of free places there is none
abbrev pub run_line : List ℕ → List (List ℕ) → ℕ → ℕ → Option Owner → Option Owner → List ℕ
run_line word names first more None end = []
run_line word names first more (Some owner) None = []
run_line word names first more (Some owner) (Some end) = if more == 0
    then place_line word first (name_of names owner.user) owner.page
    else places_line word first (first + more) (name_of names owner.user) owner.page end.page

-- a run, as a list of its places
abbrev pub run_text : List ℕ → List (List ℕ) → ℕ → List (Option Owner) → List ℕ
run_text word names first run = run_line word names first (length run - 1)
    (slice_index_or run 0 None) (slice_index_or run (length run - 1) None)

-- places from this number on are printed by a line for each run, as long as it can be
pub data ArePrinted (word : List ℕ) (names : List (List ℕ))
    : ℕ → List (Option Owner) → List ℕ → Type 0 where
  no_more : (first : ℕ) → ArePrinted word names first [] []
  one_run : (first count : ℕ) (places : List (Option Owner)) (text : List ℕ)
      → IsLongestRun places count
      → ArePrinted word names (first + count) (drop count places) text
      → ArePrinted word names first places
      (run_text word names first (take count places) ++ text)

-- how many are free: `FREE FRAMES 14 OF 16`
abbrev pub free_line : List ℕ → List (Option Owner) → List ℕ
free_line word places =
    codes "FREE " ++ (word ++ (codes "S " ++ (decimal (count_by is_none places)
    ++ (codes " OF " ++ (decimal (length places) ++ 10 ∷ [])))))

-- the lines of all places of a kind, which has this word
pub record HasPlaces (word : List ℕ) (names : List (List ℕ)) (places : List (Option Owner))
    (text : List ℕ) : Type 0 where
  pub runs : List ℕ
  pub printed : ArePrinted word names 0 places runs
  pub free : text ≡ runs ++ free_line word places
