-- Where a walk comes to a page that is not present.
use Rattle.std.specs.Prelude.{ℕ, ◌≡◌, ◌⊎◌, Bool, true, false, ◌&&◌, not, nat_lt, if◌then◌else◌}
use Rattle.std.specs.Prelude.{List, [], ◌∷◌, length, Option, None, Some}
use Rattle.s370_store.specs.declared.Access.TheVariants.{Fetch}
use Rattle.s370_store.specs.Access.{Test, IsAbsent, Touches}
use Rattle.s370_walk.specs.declared.parts.Direction.{Direction}
use Rattle.s370_walk.specs.declared.parts.Direction.TheVariants.{Gives, Takes, TakesUpTo}
use Rattle.s370_walk.specs.declared.parts.Position.{Position}
use Rattle.s370_walk.specs.Blocks.{begins_block, block_number}
use Rattle.s370_walk.specs.Hardware.{Machine, area}
use Rattle.s370_walk.specs.Walk.{Setting, State, Fetching, Moving, Over, Written, Reaches, live}
use Rattle.s370_walk.specs.Walk.{place_in, index_of, rest, skips}

-- whether the byte at a position is not stored: the word has the skip flag, and the device gives
abbrev pub is_skipped : Position → Direction → Bool
is_skipped p Gives = skips p.word
is_skipped p Takes = false
is_skipped p TakesUpTo = false

-- whether the next step looks up the place of a byte
abbrev pub moves : {D : Type 0} → Machine D → Position → D → Bool
moves machine p d = nat_lt 0 p.count && nat_lt 0 (rest machine p d) && not
    (is_skipped p p.transfer.kind)

-- what is fetched to find out where the next byte lies
abbrev pub place_asks : Written → Position → List Test
place_asks w p = if begins_block p.before then w.block_asks p (block_number (index_of p)) else []

-- the test of the next data byte, if its place is known
abbrev pub byte_asks : Option ℕ → List Test
byte_asks None = []
byte_asks (Some a) = area Fetch a 1 ∷ []

-- the page has a byte that the next step reads or writes
abbrev pub IsAsked : {D : Type 0} → Written → Machine D → State D → ℕ → Type 0
IsAsked w machine (Fetching spot m d) page = Touches (w.word_asks spot.at) page
IsAsked w machine (Moving p m d) page = (moves machine p d ≡ true)
    × (Touches (place_asks w p) page ⊎ Touches (byte_asks (place_in w m p)) page)
IsAsked w machine (Over e m d) page = ⊥

-- the size of the storage in a state of the walk
abbrev pub size_in : {D : Type 0} → State D → ℕ
size_in (Fetching spot m d) = length m.bytes
size_in (Moving p m d) = length m.bytes
size_in (Over e m d) = length m.bytes

-- the walk comes to a step that needs a page which is not present
pub record IsStuck {D : Type 0} (w : Written) (h : Setting D) (present : ℕ → Bool) (from : State D)
    (page : ℕ) : Type 0 where
  pub state : State D
  pub comes : Reaches (live w) h from state
  pub asked : IsAsked w h.machine state page
  pub away : IsAbsent (size_in state) present page
