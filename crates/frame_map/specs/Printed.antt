-- The map that is printed.
use Rattle.std.specs.Prelude.{◌≡◌, ℕ, Bool, false, List, [], ◌∷◌, ◌++◌, codes, Option}
use Rattle.std.specs.Fmt.{decimal}
use Rattle.std.specs.Io.KnownBytes.{Appends}
use Rattle.cp_core.specs.Sizes.{SystemSizes}
use Rattle.cp_core.specs.System.{SystemView, names_of}
use Rattle.program_host.specs.Deeds.{Adds, Deed, Prints}
use Rattle.frame_map.specs.Places.{places_in}
use Rattle.frame_map.specs.Runs.{HasPlaces}
use Rattle.frame_map.specs.declared.places.PlaceKind.TheVariants as kinds

-- the map of a system: the lines of its frames, those of its slots, and how many pages have been
-- paged in
pub record IsMap (s : SystemView) (sizes : SystemSizes) (text : List ℕ) : Type 0 where
  pub frames : List ℕ
  pub slots : List ℕ
  pub in_frames : HasPlaces (codes "FRAME") (names_of s.directory)
      (places_in s kinds.Frames sizes.frames) frames
  pub in_slots : HasPlaces (codes "SLOT") (names_of s.directory)
      (places_in s kinds.Slots sizes.slots) slots
  pub whole : text ≡ frames ++ (slots ++ (codes "PAGE INS "
      ++ (decimal s.supply.page_ins ++ 10 ∷ [])))

-- standard output was asked for, and the map was written to it; none of it is held back
pub record IsMapPrinted {P : Type 0} (Printed : Bool → P → Type 0)
    (contents : P → Option (List ℕ)) (held : P → List ℕ) (s : SystemView) (sizes : SystemSizes)
    (old new : Option (List Deed)) : Type 0 where
  pub text : List ℕ
  pub map : IsMap s sizes text
  pub first : P
  pub last : P
  pub given : Printed false first
  pub asked : Adds old new (Prints false ∷ [])
  pub written : Appends (contents first) (contents last) text
  pub flushed : held last ≡ []
